-- The network layer's check: it finds its fault exactly where a line does not join two sites of the file.
use Rattle.std.proofs.Common.{◌≡◌, ℕ, ◌<◌, true, false, List, length, get_or, is_some, Some, None, Option, sym, refl, ◌∙◌, inl, inr, arith}
use Rattle.std.proofs.lemmas.Bool.{true≢false, false≢true, and_parts, and_cases, not-true, not-false, eqb-true, eqb-false, both_ways, eq-eqb}
use Rattle.netfile.specs.declared.faults.NetworkFault.TheVariants.{Ends}
use Rattle.netfile.specs.Search.{lowest_where, stands_at, position_of}
use Rattle.netfile.specs.Layout.{site_offset, line_offset, site_count, line_count, site_numbers, named_first, named_second}
use Rattle.netfile.specs.Meaning.{at_record, wrong_ends, ends_fault}
use Rattle.netfile.specs.Checks.{Listed, WrongEnds}
use Rattle.netfile.proofs.Chain.{One}
use Rattle.netfile.proofs.FileChecks.{At}
use Rattle.netfile.proofs.Lowest.{lowest_is, none_below}
use Rattle.netfile.proofs.Numbers.{length_numbers, get_or_numbers}

module _ (bs : List ℕ) where
  -- a position that the search answers is one whose site has the number
  pub found_listed : (n i : ℕ) → position_of (site_numbers bs) n ≡ Some i → (i < site_count bs) × (get_or (site_numbers bs) i 0 ≡ n)
  found_listed n i e =
      let f = lowest_is (stands_at (site_numbers bs) n) (length (site_numbers bs)) i e in
      (omega (arith, f.within, length_numbers bs (site_offset bs) 8 (site_count bs)), eqb-true _ _ f.here)

  test_listed : (n : ℕ) (o : Option ℕ) → position_of (site_numbers bs) n ≡ o → (is_some o ≡ true → Listed bs n) × (is_some o ≡ false → Listed bs n → ⊥)
  test_listed n (Some i) e =
      let f = found_listed n i e in
      (λ _. (i, f.0, sym (get_or_numbers bs (site_offset bs) 8 (site_count bs) i f.0) ∙ f.1), λ t. absurd (true≢false t))
  test_listed n None e = (
    λ t. absurd (false≢true t),
    λ _ x. both_ways _ (none_below (stands_at (site_numbers bs) n) _ e x.0 (omega (arith, x.1, length_numbers bs (site_offset bs) 8 (site_count bs))))
        (eq-eqb _ _ (get_or_numbers bs (site_offset bs) 8 (site_count bs) x.0 x.1 ∙ x.2)),
  )

  pub is_listed : (n : ℕ) → is_some (position_of (site_numbers bs) n) ≡ true → Listed bs n
  is_listed n = (test_listed n (position_of (site_numbers bs) n) refl).0

  not_listed : (n : ℕ) → is_some (position_of (site_numbers bs) n) ≡ false → Listed bs n → ⊥
  not_listed n = (test_listed n (position_of (site_numbers bs) n) refl).1

  ends_say : (j : ℕ) → wrong_ends bs j ≡ true → WrongEnds bs j
  ends_say j e =
      elim (and_cases _ _ (not-true _ e)) [
        | inl a ↦ inl (not_listed (named_first bs j) a)
        | inr r ↦ elim (and_cases _ _ r) [
          | inl b ↦ inr (inl (not_listed (named_second bs j) b))
          | inr c ↦ inr (inr (eqb-true (named_first bs j) (named_second bs j) (not-false _ c)))
        ]
      ]

  pub right_ends : (j : ℕ) → wrong_ends bs j ≡ false → WrongEnds bs j → ⊥
  right_ends j e x =
      let h = and_parts _ _ (not-false _ e) in
      let k = and_parts _ _ h.1 in
      elim x [
        | inl a ↦ a (is_listed (named_first bs j) h.0)
        | inr r ↦ elim r [
          | inl b ↦ b (is_listed (named_second bs j) k.0)
          | inr c ↦ eqb-false (named_first bs j) (named_second bs j) (not-true _ k.1) c
        ]
      ]

  ends_at : (o : Option ℕ) → lowest_where (wrong_ends bs) (line_count bs) ≡ o → One (At bs) 9 (at_record (λ p. Ends p) (line_offset bs) 6 o)
  ends_at (Some j) e =
      let f = lowest_is (wrong_ends bs) (line_count bs) j e in (
        refl,
        (j, f.within, refl, ends_say j f.here),
        λ q l x. right_ends x.0 (f.before x.0 (omega (arith, x.2))) x.3,
      )
  ends_at None e = λ q x. right_ends x.0 (none_below (wrong_ends bs) (line_count bs) e x.0 x.1) x.3

  pub ends_one : One (At bs) 9 (ends_fault bs)
  unfolding ends_fault
  ends_one = ends_at (lowest_where (wrong_ends bs) (line_count bs)) refl
