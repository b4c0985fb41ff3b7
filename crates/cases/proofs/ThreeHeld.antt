-- With three routes from 10 to 20 booked just the lines 1 to 4 are held, whichever routes were chosen.
use Rattle.std.proofs.Common.{◌≡◌, ℕ, ◌<◌, ◌≤◌, Bool, true, ltb, ◌≢◌, ◌↔◌, List, [], ◌∷◌, length, Some, Option, sym, refl, ap, subst, inl, inr, arith}
use Rattle.std.proofs.lemmas.Bool.{and_from, cases_lt}
use Rattle.std.proofs.lemmas.List.{get_or_past}
use Rattle.network.specs.declared.line.Line.{Line}
use Rattle.network.specs.declared.line.LineState.TheVariants.{Free, Held}
use Rattle.network.specs.Lines.{is_free, no_line}
use Rattle.network.specs.Cuts.{level_of, least, crossing_by}
use Rattle.network.specs.Groups.{Share}
use Rattle.network.specs.Lists.{every}
use Rattle.network.specs.Routes.{SeparateRoutes, free_at, free_route, on_any, decode}
use Rattle.netfile.specs.Search.{lowest_where}
use Rattle.netfile.specs.Layout.{numbers_from}
use Rattle.netfile.specs.Meaning.{sites_in, lines_in}
use Rattle.book.specs.declared.held.Book.{Book}
use Rattle.book.specs.Ledger.{holders, lines_now}
use Rattle.book.specs.Calls.{place_in}
use Rattle.book.specs.Runs.{Sharing, Law}
use Rattle.cases.specs.Table.{worked}
use Rattle.cases.specs.File.{worked_file}
use Rattle.cases.specs.Ledgers.{with_three}
use Rattle.cases.proofs.Worked.{worked_cases}
use Rattle.cases.proofs.Meant.{lines_meant, four_sites, places}
use Rattle.cases.proofs.Reckoned.{each_line, share_level}

-- no line of the worked network is held at first
all_free_at : (p : ℕ) → free_at (worked Free) p ≡ true
all_free_at p = elim (cases_lt p 5) [
  | inl h ↦ each_line (λ q. free_at (worked Free) q ≡ true) refl refl refl refl refl p h
  | inr h ↦ ap (λ (l : Line). is_free l.state) (get_or_past (worked Free) p no_line h)
]

every_from : {X : Type 0} (P : X → Bool) → ((x : X) → P x ≡ true) → (xs : List X) → every P xs ≡ true
unfolding every
every_from P h [] = refl
every_from P h (x ∷ xs) = and_from (P x) (every P xs) (h x) (every_from P h xs)

three_taken : (rs : List (List ℕ)) → SeparateRoutes (worked Free) 0 1 3 rs → (p : ℕ) → on_any rs p ≡ ltb p 4
three_taken rs h =
    worked_cases.three_routes_take rs
    (record { separates = h; all_free = every_from (free_route (worked Free)) (every_from (free_at (worked Free)) all_free_at) rs })

same_some : (p q : ℕ) (o : Option ℕ) → o ≡ Some p → o ≡ Some q → q ≡ p
same_some p q o e f = cc

-- the lines of a ledger with one booking, by its routes
held_lines : (rs : List (List ℕ)) → ((p : ℕ) → on_any rs p ≡ ltb p 4)
    → lines_now (record {
      sites = sites_in worked_file;
      lines = lines_in worked_file;
      mark = 7;
      count = 1;
      standing = record { number = 1; from = 10; to = 20; wanted = 3; routes = rs } ∷ [];
    }) ≡ worked (Held 1)
unfolding worked_file lines_in lowest_where numbers_from holders
held_lines rs h = rw (h 0, h 1, h 2, h 3, h 4) refl

module _ {E : Type 0} (b : Book E) (ns : List ℕ) (law : Law b (with_three ns)) where
  -- the ledger's one booking has three separate routes from 10 to 20
  separate_shown : SeparateRoutes (worked Free) 0 1 3 (decode (lines_in worked_file) ns)
  separate_shown =
      let s = law.conserved.standing 0 (omega arith) in
      let rs = decode (lines_in worked_file) ns in
      subst (λ (ls : List Line). SeparateRoutes ls 0 1 3 rs) lines_meant
      (subst (λ (i : ℕ). SeparateRoutes (lines_in worked_file) i 1 3 rs) (same_some 0 s.from_place (place_in (sites_in worked_file) 10) places.0 s.first)
      (subst (λ (j : ℕ). SeparateRoutes (lines_in worked_file) s.from_place j 3 rs) (same_some 1 s.to_place (place_in (sites_in worked_file) 20) places.1 s.second) s.separates))

  four_held : lines_now (with_three ns) ≡ worked (Held 1)
  four_held = held_lines (decode (lines_in worked_file) ns) (three_taken (decode (lines_in worked_file) ns) separate_shown)

  -- two sites share a group by the ledger exactly where they do in the worked network with the lines 1 to 4 held
  pub share_held : (k x y : ℕ) → x < 4 → y < 4 → x ≢ y → Sharing (with_three ns) x y k ↔ (k ≤ level_of 4 (worked (Held 1)) x y)
  share_held k x y lx ly ne =
      subst (λ (ls : List Line). Share (length (sites_in worked_file)) ls k x y ↔ (k ≤ level_of 4 (worked (Held 1)) x y)) (sym four_held)
      (subst (λ (n : ℕ). Share n (worked (Held 1)) k x y ↔ (k ≤ level_of 4 (worked (Held 1)) x y)) (sym four_sites) (share_level (Held 1) k x y lx ly ne))

-- 30 and 40 have a level of 1 then, and no other two sites have one
pub levels_held : (level_of 4 (worked (Held 1)) 2 3 ≡ 1) × (level_of 4 (worked (Held 1)) 0 1 ≡ 0) × (level_of 4 (worked (Held 1)) 0 2 ≡ 0)
    × (level_of 4 (worked (Held 1)) 1 2 ≡ 0)
unfolding level_of least crossing_by
levels_held = (refl, refl, refl, refl)
