-- Worked cases on two small networks, as the definitions compute them.
use Rattle.std.specs.Prelude.{◌≡◌, ℕ, true, not, ◌&&◌, List, [], ◌∷◌, map, nat_lt, slice_index}
use Rattle.network.specs.declared.line.Line.{Line}
use Rattle.network.specs.declared.line.LineState.{LineState}
use Rattle.network.specs.declared.line.LineState.TheVariants.{Free, Held}
use Rattle.network.specs.Cuts.{crossing, level_of}
use Rattle.network.specs.Groups.{group_list}
use Rattle.network.specs.Lists.{every}
use Rattle.network.specs.Routes.{touches, on_any, FreeRoutes}
use Rattle.network.specs.Answers.{PartedBy}

abbrev pub joined : ℕ → ℕ → ℕ → LineState → Line
joined j x y s = record { number = j; first = x; second = y; state = s }

-- the sites 10, 20, 30 and 40 at the places 0 to 3: lines 1 and 2 join 10 and 20, 3 joins 20 and 30, 4 joins 30 and
-- 10, 5 joins 30 and 40; the state is that of the lines 1 to 4
abbrev pub worked : LineState → List Line
worked s = joined 1 0 1 s ∷ joined 2 0 1 s ∷ joined 3 1 2 s ∷ joined 4 2 0 s ∷ joined 5 2 3 Free ∷ []

-- the site numbers of a list of places
abbrev pub named : List ℕ → List ℕ
named ps = map (λ p. slice_index (10 ∷ 20 ∷ 30 ∷ 40 ∷ []) p) ps

abbrev pub groups_at : LineState → ℕ → List ℕ
groups_at s k = named (group_list 4 (worked s) k)

-- two sites, at the places 0 and 1, joined only through three relays
abbrev pub relayed : List Line
relayed = joined 1 0 2 Free ∷ joined 2 2 1 Free ∷ joined 3 0 3 Free ∷ joined 4 3 1 Free ∷ joined 5 0 4 Free ∷ joined 6 4 1 Free ∷ []

pub record WorkedCases : Type 0 where
  pub level_10_20 : level_of 4 (worked Free) 0 1 ≡ 3
  pub level_10_30 : level_of 4 (worked Free) 0 2 ≡ 2
  pub level_30_40 : level_of 4 (worked Free) 2 3 ≡ 1
  pub groups_1 : groups_at Free 1 ≡ 10 ∷ 10 ∷ 10 ∷ 10 ∷ []
  pub groups_2 : groups_at Free 2 ≡ 10 ∷ 10 ∷ 10 ∷ 40 ∷ []
  pub groups_3 : groups_at Free 3 ≡ 10 ∷ 10 ∷ 30 ∷ 40 ∷ []
  pub groups_4 : groups_at Free 4 ≡ 10 ∷ 20 ∷ 30 ∷ 40 ∷ []
  -- four lines cross the side of 10 and 30
  pub crossing_10_30 : crossing (worked Free) 5 ≡ 4
  -- there are three separate routes from 10 to 20, and any three take just the lines 1 to 4
  pub three_routes : FreeRoutes (worked Free) 0 1 3 ((0 ∷ []) ∷ (1 ∷ []) ∷ (3 ∷ 2 ∷ []) ∷ [])
  pub three_routes_take : (rs : List (List ℕ)) → FreeRoutes (worked Free) 0 1 3 rs → (p : ℕ) → on_any rs p ≡ nat_lt p 4
  -- with these held by one booking
  pub groups_held : groups_at (Held 1) 1 ≡ 10 ∷ 20 ∷ 30 ∷ 30 ∷ []
  -- a level of 3 with no line between the two
  pub level_relayed : level_of 5 relayed 0 1 ≡ 3
  pub none_between : every (λ l. not (touches l 0 && touches l 1)) relayed ≡ true
  -- the side of 40 alone is the only one with 40 and without 20 that one line crosses
  pub level_40_20 : level_of 4 (worked Free) 3 1 ≡ 1
  pub side_40 : PartedBy 4 (worked Free) 3 1 1 8
  pub only_side_40 : (s : ℕ) → PartedBy 4 (worked Free) 3 1 1 s → s ≡ 8
