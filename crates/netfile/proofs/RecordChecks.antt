-- The record layer's check: it finds its fault exactly where a number is not above the one before it.
use Rattle.std.proofs.Common.{◌≡◌, ℕ, ◌+◌, ◌-◌, ◌*◌, ◌<◌, ◌≤◌, true, false, List, length, get_or, Some, None, Option, refl, ap, inl, inr, arith}
use Rattle.std.proofs.lemmas.Bool.{and_parts, leb-true, ltb-true, both_ways}
use Rattle.netfile.specs.declared.faults.RecordFault.TheVariants.{NotRising}
use Rattle.netfile.specs.declared.faults.NetworkFault.TheVariants.{Record}
use Rattle.netfile.specs.Search.{or_else, falls_at, first_fall}
use Rattle.netfile.specs.Layout.{pair_at, numbers_from, site_offset, line_offset, site_count, line_count, site_numbers, line_numbers, site_start, line_start}
use Rattle.netfile.specs.Meaning.{carried, at_record, rising_fault}
use Rattle.netfile.proofs.Accepted.{Bounded}
use Rattle.netfile.proofs.Chain.{One}
use Rattle.netfile.proofs.FileChecks.{At}
use Rattle.netfile.proofs.Lowest.{Lowest, lowest_is, none_below}
use Rattle.netfile.proofs.Numbers.{length_numbers, get_or_numbers}
use Rattle.netfile.proofs.Rising.{falls_here}

module _ (bs : List ℕ) (start step n : ℕ) where
  -- the number of the record at a position
  abbrev num : ℕ → ℕ
  num i = pair_at bs (start + step * i)

  -- a position that the test finds comes after another, whose number is no lower
  pub fall_says : (i : ℕ) → i < n → falls_at (numbers_from bs start step n) i ≡ true → (k : ℕ) × (k + 1 ≡ i) × (num (k + 1) ≤ num k)
  fall_says i h e =
      let p = and_parts _ _ e in
      let pos : 0 < i = ltb-true 0 i p.0 in
      let le = leb-true _ _ p.1 in
      let same : (i - 1) + 1 ≡ i = omega arith in
      (i - 1, same, omega (arith, le, ap num same, get_or_numbers bs start step n i h, get_or_numbers bs start step n (i - 1) (omega arith)))

  pub fall_from : (k : ℕ) → k + 1 < n → num (k + 1) ≤ num k → falls_at (numbers_from bs start step n) (k + 1) ≡ true
  fall_from k h le =
      let same : (k + 1) - 1 ≡ k = omega arith in
      falls_here (numbers_from bs start step n) (k + 1) (omega arith)
      (omega (arith, ap (λ (m : ℕ). get_or (numbers_from bs start step n) m 0) same, get_or_numbers bs start step n (k + 1) h, get_or_numbers bs start step n k (omega arith)))

module _ (bs : List ℕ) (b : Bounded bs) where
  found_site : (i : ℕ) → Lowest (falls_at (site_numbers bs)) (length (site_numbers bs)) i → One (At bs) 8 (Some (Record (NotRising (site_start bs i))))
  found_site i f =
      let within : i < site_count bs = omega (arith, f.within, length_numbers bs (site_offset bs) 8 (site_count bs)) in
      let s = fall_says bs (site_offset bs) 8 (site_count bs) i within f.here in
      let same : s.0 + 1 ≡ i = s.1 in (
        refl,
        inl (s.0, omega arith, (omega arith, s.2)),
        λ q l x. elim x [
          | inl y ↦ both_ways _ (f.before (y.0 + 1) (omega (arith, y.1))) (fall_from bs (site_offset bs) 8 (site_count bs) y.0 y.2.0 y.2.1)
          | inr y ↦ omega (arith, y.1, b.lines_from, b.whole_sites)
        ],
      )

  found_line : (j : ℕ) → ((k : ℕ) → k < length (site_numbers bs) → falls_at (site_numbers bs) k ≡ false) → Lowest (falls_at (line_numbers bs)) (length (line_numbers bs)) j → One (At bs) 8 (Some (Record (NotRising (line_start bs j))))
  found_line j h f =
      let within : j < line_count bs = omega (arith, f.within, length_numbers bs (line_offset bs) 6 (line_count bs)) in
      let s = fall_says bs (line_offset bs) 6 (line_count bs) j within f.here in
      let same : s.0 + 1 ≡ j = s.1 in (
        refl,
        inr (s.0, omega arith, (omega arith, s.2)),
        λ q l x. elim x [
          | inl y ↦ both_ways _ (h (y.0 + 1) (omega (arith, y.2.0, length_numbers bs (site_offset bs) 8 (site_count bs)))) (fall_from bs (site_offset bs) 8 (site_count bs) y.0 y.2.0 y.2.1)
          | inr y ↦ both_ways _ (f.before (y.0 + 1) (omega (arith, y.1))) (fall_from bs (line_offset bs) 6 (line_count bs) y.0 y.2.0 y.2.1)
        ],
      )

  found_none : ((k : ℕ) → k < length (site_numbers bs) → falls_at (site_numbers bs) k ≡ false) → ((k : ℕ) → k < length (line_numbers bs) → falls_at (line_numbers bs) k ≡ false) → One (At bs) 8 None
  found_none h g =
      λ q x. elim x [
        | inl y ↦ both_ways _ (h (y.0 + 1) (omega (arith, y.2.0, length_numbers bs (site_offset bs) 8 (site_count bs)))) (fall_from bs (site_offset bs) 8 (site_count bs) y.0 y.2.0 y.2.1)
        | inr y ↦ both_ways _ (g (y.0 + 1) (omega (arith, y.2.0, length_numbers bs (line_offset bs) 6 (line_count bs)))) (fall_from bs (line_offset bs) 6 (line_count bs) y.0 y.2.0 y.2.1)
      ]

  rising_at : (s l : Option ℕ) → first_fall (site_numbers bs) ≡ s → first_fall (line_numbers bs) ≡ l → One (At bs) 8 (carried (λ e. Record e) (or_else (at_record (λ p. NotRising p) (site_offset bs) 8 s) (at_record (λ p. NotRising p) (line_offset bs) 6 l)))
  rising_at (Some i) l e f = found_site i (lowest_is (falls_at (site_numbers bs)) _ i e)
  rising_at None (Some j) e f = found_line j (none_below (falls_at (site_numbers bs)) _ e) (lowest_is (falls_at (line_numbers bs)) _ j f)
  rising_at None None e f = found_none (none_below (falls_at (site_numbers bs)) _ e) (none_below (falls_at (line_numbers bs)) _ f)

  pub rising_one : One (At bs) 8 (carried (λ e. Record e) (rising_fault bs))
  rising_one = rising_at (first_fall (site_numbers bs)) (first_fall (line_numbers bs)) refl refl
