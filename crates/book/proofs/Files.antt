-- What a network file without a fault says of its sites and lines.
use Rattle.std.proofs.Common.{◌≡◌, ℕ, zero, suc, ◌+◌, ◌<◌, ◌≤◌, true, List, map, length, get_or, Some, None, sym, ap, ◌∙◌, subst, inl, inr, add-one, arith}
use mathlib.Core.List.{map-map}
use Rattle.std.specs.List.{range_with_len}
use Rattle.std.proofs.lemmas.Option.{slice_get-get_or}
use Rattle.std.proofs.lemmas.Bool.{cases_eq, cases_order, eqb-true}
use Rattle.network.specs.declared.line.Line.{Line}
use Rattle.network.specs.declared.line.LineState.TheVariants.{Free}
use Rattle.network.specs.declared.site.Site.{Site}
use Rattle.network.specs.Lines.{line_at, no_line, AllJoin}
use Rattle.network.specs.Lists.{distinct}
use Rattle.network.proofs.Lists.{distinct_from_get_or}
use Rattle.netfile.specs.Search.{position_of, stands_at}
use Rattle.netfile.specs.Layout.{site_offset, line_offset, site_count, line_count, site_record, site_number, line_number, numbers_from}
use Rattle.netfile.specs.Meaning.{first_fault, line_record, sites_in, lines_in}
use Rattle.netfile.proofs.Lowest.{lowest_is}
use Rattle.netfile.proofs.Networks.{holds}
use Rattle.netfile.proofs.Numbers.{length_numbers, get_or_numbers}

-- sites and lines of a network as it is opened: no two have one number, each line joins two different sites and is free
pub record WellFormed (ss : List Site) (ls : List Line) : Type 0 where
  pub sites_distinct : distinct (map (λ s. s.number) ss) ≡ true
  pub lines_distinct : distinct (map (λ l. l.number) ls) ≡ true
  pub joined : AllJoin (length ss) ls
  pub all_free : (p : ℕ) → p < length ls → (line_at ls p).state ≡ Free
  pub some_site : 1 ≤ length ss
  pub few_sites : length ss ≤ 64
  pub few_lines : length ls ≤ 512

abbrev pub FileFacts : List ℕ → Type 0
FileFacts bytes = WellFormed (sites_in bytes) (lines_in bytes)

-- where each number is above the one before it, it is above all before it
rising : (f : ℕ → ℕ) (n : ℕ) → ((i : ℕ) → i + 1 < n → f i < f (i + 1)) → (i j : ℕ) → i < j → j < n → f i < f j
rising f n h i zero l m = absurd (omega arith)
rising f n h i (suc j) l m =
    let here : f j < f (suc j) = subst (λ (k : ℕ). f j < f k) (add-one j) (h j (omega arith)) in
    elim (cases_eq i j) [
      | inl e ↦ subst (λ (k : ℕ). f k < f (suc j)) (sym e) here
      | inr ne ↦ let before = rising f n h i j (omega arith) (omega arith) in omega arith
    ]

-- the numbers of n records that rise are all different
numbers_distinct : (bs : List ℕ) (start step n : ℕ) (f : ℕ → ℕ) → ((i : ℕ) → i < n → get_or (numbers_from bs start step n) i 0 ≡ f i)
    → ((i : ℕ) → i + 1 < n → f i < f (i + 1)) → distinct (numbers_from bs start step n) ≡ true
numbers_distinct bs start step n f at h =
    let size = length_numbers bs start step n in
    distinct_from_get_or (numbers_from bs start step n) 0
    (λ i j l m same.
    let li : i < n = omega arith in
    let lj : j < n = omega arith in
    let equal : f i ≡ f j = sym (at i li) ∙ same ∙ at j lj in
    elim (cases_order i j) [
      | inl q ↦ q
      | inr w ↦ elim w [ inl q ↦ absurd (omega (arith, rising f n h i j q lj)) | inr q ↦ absurd (omega (arith, rising f n h j i q li)) ]
    ])

-- the numbers of the sites and of the lines are those of the records
site_numbers_are : (bs : List ℕ) → map (λ s. s.number) (sites_in bs) ≡ numbers_from bs (site_offset bs) 8 (site_count bs)
unfolding sites_in numbers_from
site_numbers_are bs = map-map (λ (s : Site). s.number) (site_record bs) (range_with_len 0 (site_count bs))

line_numbers_are : (bs : List ℕ) → map (λ l. l.number) (lines_in bs) ≡ numbers_from bs (line_offset bs) 6 (line_count bs)
unfolding lines_in numbers_from
line_numbers_are bs = map-map (λ (l : Line). l.number) (line_record bs) (range_with_len 0 (line_count bs))

-- a number that is found stands at its place
pub found_at : (ns : List ℕ) (n i : ℕ) → position_of ns n ≡ Some i → (i < length ns) × (get_or ns i 0 ≡ n)
found_at ns n i e = let w = lowest_is (stands_at ns n) (length ns) i e in (w.within, eqb-true (get_or ns i 0) n w.here)

pub file_facts : (bytes : List ℕ) → first_fault bytes ≡ None → FileFacts bytes
file_facts bytes e =
    let h = holds bytes e in
    record {
      sites_distinct =
          ap distinct (site_numbers_are bytes)
          ∙ numbers_distinct bytes (site_offset bytes) 8 (site_count bytes) (site_number bytes)
          (get_or_numbers bytes (site_offset bytes) 8 (site_count bytes)) h.sites_rise;
      lines_distinct =
          ap distinct (line_numbers_are bytes)
          ∙ numbers_distinct bytes (line_offset bytes) 6 (line_count bytes) (line_number bytes)
          (get_or_numbers bytes (line_offset bytes) 6 (line_count bytes)) h.lines_rise;
      joined = h.joined;
      all_free = λ p l. (h.each_line p (line_at (lines_in bytes) p) (slice_get-get_or (lines_in bytes) p no_line l)).unheld;
      some_site = h.some_site;
      few_sites = h.few_sites;
      few_lines = h.few_lines;
    }
