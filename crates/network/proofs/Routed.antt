-- Separate routes of free lines cross a set of places at different lines, so there are no more of them than the level.
use Rattle.std.proofs.Common.{◌≡◌, ℕ, suc, ◌+◌, ◌≤◌, Bool, true, false, cond, List, [], ◌∷◌, length, sym, refl, ap, ◌∙◌, inl, inr, arith}
use Rattle.std.proofs.lemmas.Bool.{cases_Bool, both_ways}
use Rattle.network.specs.declared.line.Line.{Line}
use Rattle.network.specs.Lines.{line_at}
use Rattle.network.specs.Sides.{differ}
use Rattle.network.specs.Cuts.{crosses, crossing_by}
use Rattle.network.specs.Lists.{among, distinct, every}
use Rattle.network.specs.Routes.{route, free_route, separate, on_any, FreeRoutes}
use Rattle.network.specs.Laws.{Routed}
use Rattle.network.proofs.Crossing.{crossing_nil, crossing_cons}
use Rattle.network.proofs.Ties.{Tied}
use Rattle.network.proofs.Levels.{level_from_tied}
use Rattle.network.proofs.Lists.{among_cases, among_none, distinct_none, distinct_cons, every_parts, distinct_fits, passing, among_passing, length_passing_suc}
use Rattle.network.proofs.Chains.{route_crosses, on_any_first, on_any_later, meets_any_among, separate_parts}

-- the line at a position crosses the set m
abbrev pub crosses_at : (ℕ → Bool) → List Line → ℕ → Bool
crosses_at m ls p = crosses m (line_at ls p)

-- the positions of the free lines that cross the set m
abbrev pub crossers : (ℕ → Bool) → List Line → List ℕ
crossers m ls = passing (crosses_at m ls) (length ls)

pub length_crossers : (m : ℕ → Bool) (ls : List Line) → length (crossers m ls) ≡ crossing_by m ls
unfolding passing
length_crossers m [] = sym (crossing_nil m)
length_crossers m (l ∷ ls) =
    length_passing_suc (crosses_at m (l ∷ ls)) (length ls) ∙ ap (λ k. cond (crosses m l) 1 0 + k) (length_crossers m ls) ∙ sym (crossing_cons m l ls)

-- a different crossing line for each of the routes
abbrev Picked : (ℕ → Bool) → List Line → List (List ℕ) → Type 0
Picked m ls rs = (ps : List ℕ) × (length ps ≡ length rs) × (distinct ps ≡ true)
    × ((p : ℕ) → among ps p ≡ true → (among (crossers m ls) p ≡ true) × (on_any rs p ≡ true))

pick : (m : ℕ → Bool) (ls : List Line) (x y : ℕ) → differ (m x) (m y) ≡ true → (rs : List (List ℕ))
    → every (route ls x y) rs ≡ true → every (free_route ls) rs ≡ true → separate rs ≡ true → Picked m ls rs
pick m ls x y d [] h f s = ([], refl, distinct_none, λ p a. absurd (among_none p a))
pick m ls x y d (r ∷ rs) h f s =
    let hs = every_parts (route ls x y) r rs h in
    let fs = every_parts (free_route ls) r rs f in
    let ss = separate_parts r rs s in
    let c = route_crosses ls m x y r hs.0 fs.0 d in
    let t = pick m ls x y d rs hs.1 fs.1 ss.1 in
    let fresh : among t.0 c.0 ≡ false = elim (cases_Bool (among t.0 c.0)) [
      | inl a ↦ absurd (both_ways (on_any rs c.0) (meets_any_among r rs c.0 ss.0 c.1) (t.3 c.0 a).1)
      | inr a ↦ a
    ] in
    let found : (p : ℕ) → among (c.0 ∷ t.0) p ≡ true → (among (crossers m ls) p ≡ true) × (on_any (r ∷ rs) p ≡ true) =
    λ p a. elim (among_cases c.0 p t.0 a) [
      | inl e ↦ (
        ap (among (crossers m ls)) (sym e) ∙ among_passing (crosses_at m ls) (length ls) c.0 c.2 c.3,
        on_any_first r rs p (ap (among r) (sym e) ∙ c.1),
      )
      | inr b ↦ (let q = t.3 p b in (q.0, on_any_later r rs p q.1))
    ] in
    (c.0 ∷ t.0, ap suc t.1, distinct_cons c.0 t.0 fresh t.2, found)

-- so a set that holds exactly one of x and y is crossed at least as often as there are separate routes between them
pub routes_cross : (m : ℕ → Bool) (ls : List Line) (k x y : ℕ) (rs : List (List ℕ)) → FreeRoutes ls x y k rs → differ (m x) (m y) ≡ true → k ≤ crossing_by m ls
routes_cross m ls k x y rs h d =
    let t = pick m ls x y d rs h.separates.routes h.all_free h.separates.apart in
    omega (arith, h.separates.many, t.1, distinct_fits t.0 (crossers m ls) t.2 (λ p a. (t.3 p a).0), length_crossers m ls)

pub routed : Routed
unfolding Tied
routed n ls k x y rs net lx ly ne h = level_from_tied n ls k x y lx ly ne (λ m d. routes_cross m ls k x y rs h d)
