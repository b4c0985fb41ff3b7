-- An accepted file holds what its bytes say.
use Rattle.std.proofs.Common.{◌≡◌, ℕ, zero, suc, ◌+◌, ◌-◌, ◌<◌, true, false, List, length, is_some, Some, None, Option, sym, refl, ap, ◌∙◌, subst, inl, inr, arith}
use Rattle.std.proofs.lemmas.Bool.{cases_lt, cases_order, and_parts, not-false, not-true, eqb-false, false≢true}
use Rattle.std.proofs.lemmas.Option.{slice_get-get_or}
use Rattle.std.specs.List.{slice_get}
use Rattle.network.specs.declared.site.Site.{Site}
use Rattle.network.specs.declared.line.Line.{Line}
use Rattle.network.specs.Lines.{Joins, line_at, no_line}
use Rattle.netfile.specs.declared.faults.NetworkFault.{NetworkFault}
use Rattle.netfile.specs.declared.faults.NetworkFault.TheVariants.{Ends}
use Rattle.netfile.specs.Search.{position_of, lowest_where}
use Rattle.netfile.specs.Layout.{site_offset, line_offset, site_count, line_count, site_numbers, site_record, site_number, line_number, named_first, named_second, site_start, line_start}
use Rattle.netfile.specs.Meaning.{first_fault, ends_fault, at_record, wrong_ends, sites_in, lines_in, line_record, or_zero}
use Rattle.netfile.specs.Networks.{PlaceOf, LineSays, Holds, Judged}
use Rattle.netfile.proofs.Accepted.{file_bounded, no_fault}
use Rattle.netfile.proofs.FaultLaws.{none_applies, fault_is_first}
use Rattle.netfile.proofs.Lowest.{none_below}
use Rattle.netfile.proofs.NetworkChecks.{found_listed}
use Rattle.netfile.proofs.Numbers.{get_or_numbers}
use Rattle.netfile.proofs.Tables.{sites_length, lines_length, site_there, site_past, line_there, line_past}

-- numbers that rise from each position to the next rise from each to any later one
rise_far : (f : ℕ → ℕ) (n : ℕ) → ((i : ℕ) → i + 1 < n → f i < f (i + 1)) → (a d : ℕ) → a + d + 1 < n → f a < f (a + d + 1)
rise_far f n h a zero l = let same : a + zero + 1 ≡ a + 1 = omega arith in subst (λ (k : ℕ). f a < f k) (sym same) (h a (omega arith))
rise_far f n h a (suc d) l =
    let same : a + suc d + 1 ≡ (a + d + 1) + 1 = omega arith in
    let near : f a < f (a + d + 1) = rise_far f n h a d (omega arith) in
    let step : f (a + d + 1) < f ((a + d + 1) + 1) = h (a + d + 1) (omega arith) in
    subst (λ (k : ℕ). f a < f k) (sym same) (omega arith)

rise_later : (f : ℕ → ℕ) (n : ℕ) → ((i : ℕ) → i + 1 < n → f i < f (i + 1)) → (a b : ℕ) → a < b → b < n → f a < f b
rise_later f n h a b l u =
    let same : a + (b - (a + 1)) + 1 ≡ b = omega arith in
    subst (λ (k : ℕ). f a < f k) same (rise_far f n h a (b - (a + 1)) (omega arith))

rise_apart : (f : ℕ → ℕ) (n : ℕ) → ((i : ℕ) → i + 1 < n → f i < f (i + 1)) → (a b : ℕ) → a < n → b < n → f a ≡ f b → a ≡ b
rise_apart f n h a b l u e = elim (cases_order a b) [
  | inl same ↦ same
  | inr r ↦ elim r [
    | inl below ↦ absurd (omega (arith, rise_later f n h a b below u))
    | inr above ↦ absurd (omega (arith, rise_later f n h b a above l))
  ]
]

no_record : {E : Type 0} (w : ℕ → E) (start step : ℕ) (o : Option ℕ) → at_record w start step o ≡ None → o ≡ None
no_record w start step None e = refl
no_record w start step (Some i) e = let z : ◌≡◌ {A = ℕ} 0 1 = cc in absurd (omega arith)

module _ (bs : List ℕ) (ok : first_fault bs ≡ None) where
  sites_rise : (i : ℕ) → i + 1 < site_count bs → site_number bs i < site_number bs (i + 1)
  sites_rise i h = elim (cases_lt (site_number bs i) (site_number bs (i + 1)))
      [ inl up ↦ up | inr down ↦ absurd (none_applies bs ok 8 (site_start bs (i + 1)) (inl (i, refl, (h, down)))) ]

  lines_rise : (j : ℕ) → j + 1 < line_count bs → line_number bs j < line_number bs (j + 1)
  lines_rise j h = elim (cases_lt (line_number bs j) (line_number bs (j + 1)))
      [ inl up ↦ up | inr down ↦ absurd (none_applies bs ok 8 (line_start bs (j + 1)) (inr (j, refl, (h, down)))) ]

  place_found : (n : ℕ) (o : Option ℕ) → position_of (site_numbers bs) n ≡ o → is_some o ≡ true → PlaceOf bs n (or_zero o)
  place_found n None e t = absurd (false≢true t)
  place_found n (Some i) e t =
      let f = found_listed bs n i e in
      let here : site_number bs i ≡ n = sym (get_or_numbers bs (site_offset bs) 8 (site_count bs) i f.0) ∙ f.1 in
      (f.0, here, λ k l s. rise_apart (site_number bs) (site_count bs) sites_rise k i l f.0 (s ∙ sym here))

  ends_right : (j : ℕ) → j < line_count bs → wrong_ends bs j ≡ false
  unfolding ends_fault
  ends_right j h =
      none_below (wrong_ends bs) (line_count bs)
      (no_record (λ p. Ends p) (line_offset bs) 6 (lowest_where (wrong_ends bs) (line_count bs)) (no_fault bs ok).ends) j h

  line_says : (j : ℕ) → j < line_count bs → LineSays bs j (line_record bs j)
  line_says j h =
      let t = and_parts _ _ (not-false _ (ends_right j h)) in
      let u = and_parts _ _ t.1 in
      let p = place_found (named_first bs j) (position_of (site_numbers bs) (named_first bs j)) refl t.0 in
      let q = place_found (named_second bs j) (position_of (site_numbers bs) (named_second bs j)) refl u.0 in
      record {
        numbered = refl;
        from_place = p;
        to_place = q;
        apart = λ e. eqb-false _ _ (not-true _ u.1) (sym p.1 ∙ ap (site_number bs) e ∙ q.1);
        unheld = refl;
      }

  pub holds : Holds bs
  holds =
      let b = file_bounded bs ok in
      record {
        site_total = sites_length bs;
        line_total = lines_length bs;
        whole_sites = b.whole_sites;
        whole_lines = b.whole_lines;
        some_site = omega (arith, sites_length bs, b.some_site);
        few_sites = omega (arith, sites_length bs, b.few_sites);
        few_lines = omega (arith, lines_length bs, b.few_lines);
        sites_first = b.lines_from;
        within = b.lines_to;
        each_site = each_site;
        each_line = each_line;
        sites_rise = sites_rise;
        lines_rise = lines_rise;
        joined = joined;
      }
    where
      each_site : (i : ℕ) (s : Site) → slice_get (sites_in bs) i ≡ Some s → s ≡ site_record bs i
      each_site i s e = elim (cases_lt i (site_count bs)) [
        | inl l ↦ let t = site_there bs i l in cc
        | inr u ↦ let t = site_past bs i u in let z : ◌≡◌ {A = ℕ} 0 1 = cc in absurd (omega arith)
      ]

      each_line : (j : ℕ) (l : Line) → slice_get (lines_in bs) j ≡ Some l → LineSays bs j l
      each_line j l e = elim (cases_lt j (line_count bs)) [
        | inl h ↦ let t = line_there bs j h in
            let same : line_record bs j ≡ l = cc in subst (LineSays bs j) same (line_says j h)
        | inr u ↦ let t = line_past bs j u in let z : ◌≡◌ {A = ℕ} 0 1 = cc in absurd (omega arith)
      ]

      joined : (p : ℕ) → p < length (lines_in bs) → Joins (length (sites_in bs)) (line_at (lines_in bs) p)
      joined p h =
          let says = each_line p (line_at (lines_in bs) p) (slice_get-get_or (lines_in bs) p no_line h) in
          (omega (arith, says.from_place.0, sites_length bs), omega (arith, says.to_place.0, sites_length bs), says.apart)

pub judged : (bs : List ℕ) (o : Option NetworkFault) → o ≡ first_fault bs → Judged bs o
judged bs None e = (none_applies bs (sym e), holds bs (sym e))
judged bs (Some x) e = fault_is_first bs x (sym e)
