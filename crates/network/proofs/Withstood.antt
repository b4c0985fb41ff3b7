-- The level of two places is k or more exactly where fewer than k lines, taken away, leave a route of free lines.
use Rattle.std.proofs.Common.{◌≡◌, ℕ, zero, suc, ◌+◌, ◌<◌, ◌≤◌, Bool, true, false, ◌≢◌, List, [], ◌∷◌, ◌++◌, length, sym, ap, ◌∙◌, subst, inl, inr, arith}
use Rattle.std.proofs.lemmas.Bool.{cases_Bool, cases_lt, both_ways, and_parts, and_from, or_from}
use Rattle.network.specs.declared.line.Line.{Line}
use Rattle.network.specs.Lines.{is_free, line_at, AllJoin}
use Rattle.network.specs.Sides.{member, differ}
use Rattle.network.specs.Cuts.{level_of}
use Rattle.network.specs.Lists.{among, distinct, every, meet}
use Rattle.network.specs.Routes.{touches, other_end, chained, stops, end_of, route, free_at, free_route}
use Rattle.network.specs.Laws.{Withstood}
use Rattle.network.proofs.Ties.{Tied, differ_yes, differ_no, differ_parts}
use Rattle.network.proofs.Levels.{count_of, level_met, tied_from_level}
use Rattle.network.proofs.Lists.{among_here, among_later, among_cases, among_none, among_nil, every_none, every_cons, every_among, every_append, every_weaker, distinct_none, distinct_cons, distinct_append, distinct_beyond, distinct_below, meet_none, meet_cons, meet_append, meet_among, meet_from_among, passing_among, among_passing, distinct_passing}
use Rattle.network.proofs.Chains.{touches_first, touches_second, other_end_first, other_end_second, chained_none, chained_push, end_of_none, end_of_push, stops_none, stops_push, route_from, route_crosses}
use Rattle.network.proofs.Routed.{crosses_at, crossers, length_crossers}

module _ (ls : List Line) (gone : List ℕ) (x : ℕ) where
  -- a chain of free lines from x to v that meets no line of `gone`, passes no place twice and only places of the list
  record Way (seen : List ℕ) (v : ℕ) (r : List ℕ) : Type 0 where
    chain : chained ls x r ≡ true
    ends : end_of ls x r ≡ v
    simple : distinct (x ∷ stops ls x r) ≡ true
    free : free_route ls r ≡ true
    clear : meet r gone ≡ false
    inside : every (among seen) (x ∷ stops ls x r) ≡ true

  -- the line at p is free and not gone, and leads from u to v
  record Onward (u v p : ℕ) : Type 0 where
    within : p < length ls
    at_u : touches (line_at ls p) u ≡ true
    to_v : other_end (line_at ls p) u ≡ v
    is_open : free_at ls p ≡ true
    left : among gone p ≡ false

  way_start : Way (x ∷ []) x []
  way_start = record {
    chain = chained_none ls x;
    ends = end_of_none ls x;
    simple = ap (λ t. distinct (x ∷ t)) (stops_none ls x) ∙ distinct_cons x [] (among_nil x) distinct_none;
    free = every_none (free_at ls);
    clear = meet_none gone;
    inside = ap (λ t. every (among (x ∷ [])) (x ∷ t)) (stops_none ls x) ∙ every_cons (among (x ∷ [])) x [] (among_here x []) (every_none (among (x ∷ [])));
  }

  -- more places seen
  way_wider : (seen : List ℕ) (w v : ℕ) (r : List ℕ) → Way seen v r → Way (w ∷ seen) v r
  way_wider seen w v r h = record {
    chain = h.chain;
    ends = h.ends;
    simple = h.simple;
    free = h.free;
    clear = h.clear;
    inside = every_weaker (among seen) (among (w ∷ seen)) (x ∷ stops ls x r) (λ z a. among_later w z seen a) h.inside;
  }

  -- one line more, to a place not seen before
  way_on : (seen : List ℕ) (u v p : ℕ) (r : List ℕ) → Way seen u r → Onward u v p → among seen v ≡ false → Way (v ∷ seen) v (r ++ p ∷ [])
  way_on seen u v p r h o new = record {
    chain = chained_push ls x r p h.chain o.within (ap (touches (line_at ls p)) h.ends ∙ o.at_u);
    ends = end_of_push ls x r p ∙ far;
    simple = ap distinct places ∙ distinct_append (x ∷ stops ls x r) (v ∷ []) h.simple (distinct_cons v [] (among_nil v) distinct_none) (meet_from_among (x ∷ stops ls x r) (v ∷ []) apart);
    free = every_append (free_at ls) r (p ∷ []) ∙ and_from (every (free_at ls) r) _ h.free (every_cons (free_at ls) p [] o.is_open (every_none (free_at ls)));
    clear = meet_append r (p ∷ []) gone ∙ or_from (meet r gone) _ h.clear (meet_cons p [] gone o.left (meet_none gone));
    inside = ap (every (among (v ∷ seen))) places ∙ every_append (among (v ∷ seen)) (x ∷ stops ls x r) (v ∷ [])
        ∙ and_from (every (among (v ∷ seen)) (x ∷ stops ls x r)) _ (way_wider seen v u r h).inside
        (every_cons (among (v ∷ seen)) v [] (among_here v seen) (every_none (among (v ∷ seen))));
  }
    where
      far : other_end (line_at ls p) (end_of ls x r) ≡ v
      far = ap (λ z. other_end (line_at ls p) z) h.ends ∙ o.to_v

      places : x ∷ stops ls x (r ++ p ∷ []) ≡ (x ∷ stops ls x r) ++ v ∷ []
      places = ap {B = List ℕ} (λ t. x ∷ t) (stops_push ls x r p ∙ ap {B = List ℕ} (λ z. stops ls x r ++ z ∷ []) far)

      apart : (z : ℕ) → among (x ∷ stops ls x r) z ≡ true → among (v ∷ []) z ≡ false
      apart z a = elim (cases_Bool (among (v ∷ []) z)) [
        | inl b ↦ elim (among_cases v z [] b) [
          | inl e ↦ absurd (both_ways (among seen v) new (ap (among seen) e ∙ every_among (among seen) (x ∷ stops ls x r) z h.inside a))
          | inr c ↦ absurd (among_none z c)
        ]
        | inr b ↦ b
      ]

-- a list of places reached from x, each by a way inside the list
record Grown (n : ℕ) (ls : List Line) (gone : List ℕ) (x : ℕ) (seen : List ℕ) : Type 0 where
  start : among seen x ≡ true
  once : distinct seen ≡ true
  below : (v : ℕ) → among seen v ≡ true → v < n
  ways : (v : ℕ) → among seen v ≡ true → (r : List ℕ) × Way ls gone x seen v r

grown_start : (n : ℕ) (ls : List Line) (gone : List ℕ) (x : ℕ) → x < n → Grown n ls gone x (x ∷ [])
grown_start n ls gone x l = record {
  start = among_here x [];
  once = distinct_cons x [] (among_nil x) distinct_none;
  below = λ v a. elim (among_cases x v [] a) [ inl e ↦ omega arith | inr b ↦ absurd (among_none v b) ];
  ways = λ v a. elim (among_cases x v [] a) [
    | inl e ↦ ([], subst (λ z. Way ls gone x (x ∷ []) z []) e (way_start ls gone x))
    | inr b ↦ absurd (among_none v b)
  ];
}

grown_on : (n : ℕ) (ls : List Line) (gone : List ℕ) (x : ℕ) (seen : List ℕ) (u v p : ℕ) → Grown n ls gone x seen
    → among seen u ≡ true → among seen v ≡ false → v < n → Onward ls gone x u v p → Grown n ls gone x (v ∷ seen)
grown_on n ls gone x seen u v p g a new l o = record {
  start = among_later v x seen g.start;
  once = distinct_cons v seen new g.once;
  below = λ z b. elim (among_cases v z seen b) [ inl e ↦ omega arith | inr c ↦ g.below z c ];
  ways = λ z b. elim (among_cases v z seen b) [
    | inl e ↦ (let w = g.ways u a in
        (w.0 ++ p ∷ [], subst (λ t. Way ls gone x (v ∷ seen) t (w.0 ++ p ∷ [])) e (way_on ls gone x seen u v p w.0 w.1 o new)))
    | inr c ↦ (let w = g.ways z c in (w.0, way_wider ls gone x seen v z w.0 w.1))
  ];
}

-- a route of free lines from x to y that is left without the lines `gone`
abbrev pub Left : List Line → ℕ → ℕ → List ℕ → Type 0
Left ls x y gone = (r : List ℕ) × (route ls x y r ≡ true) × (free_route ls r ≡ true) × (meet r gone ≡ false)

module _ (n : ℕ) (ls : List Line) (k x y : ℕ) (net : AllJoin n ls) (tied : Tied (count_of ls) k x y) (gone : List ℕ) (few : length gone < k) where
  -- while y is not reached, some line that is left leads to a new place
  reach_on : (seen : List ℕ) → Grown n ls gone x seen → among seen y ≡ false → (v : ℕ) × Grown n ls gone x (v ∷ seen)
  unfolding Tied
  reach_on seen g new =
      let many = tied (among seen) (differ_parts (among seen x) (among seen y) g.start new) in
      let c = distinct_beyond (crossers (among seen) ls) gone (distinct_passing (crosses_at (among seen) ls) (length ls)) (omega (arith, length_crossers (among seen) ls)) in
      let l = line_at ls c.0 in
      let q = passing_among (crosses_at (among seen) ls) (length ls) c.0 c.1 in
      let f = and_parts (is_free l.state) (differ (among seen l.first) (among seen l.second)) q.1 in
      let j = net c.0 q.0 in
      elim (cases_Bool (among seen l.first)) [
        | inl a ↦ (
          l.second,
          grown_on n ls gone x seen l.first l.second c.0 g a (differ_yes _ _ f.1 a) j.1
              (record { within = q.0; at_u = touches_first l; to_v = other_end_first l; is_open = f.0; left = c.2 }),
        )
        | inr a ↦ (
          l.first,
          grown_on n ls gone x seen l.second l.first c.0 g (differ_no _ _ f.1 a) a j.0
              (record { within = q.0; at_u = touches_second l; to_v = other_end_second l j.2; is_open = f.0; left = c.2 }),
        )
      ]

  reach : (fuel : ℕ) (seen : List ℕ) → Grown n ls gone x seen → n < length seen + fuel → Left ls x y gone
  reach zero seen g l = absurd (let z : ⊥ = omega (arith, distinct_below seen n g.once g.below) in z)
  reach (suc fuel) seen g l =
      elim (cases_Bool (among seen y)) [
        | inl a ↦ (let w = g.ways y a in
            (w.0, route_from ls x y w.0 w.1.chain w.1.ends w.1.simple, w.1.free, w.1.clear))
        | inr a ↦ (let s = reach_on seen g a in reach fuel (s.0 ∷ seen) s.1 (omega arith))
      ]

-- taking away the lines that cross a side which attains the level leaves no route
pub cut_off : (n : ℕ) (ls : List Line) (x y : ℕ) → x < n → y < n → x ≢ y
    → (gone : List ℕ) × (length gone ≡ level_of n ls x y) × (Left ls x y gone → ⊥)
cut_off n ls x y lx ly ne =
    let s = level_met n ls x y lx ly ne in
    let m : ℕ → Bool = member s.0 in
    let parted : Left ls x y (crossers m ls) → ⊥ = λ t.
    (let c = route_crosses ls m x y t.0 t.1 t.2 s.2 in
    both_ways (among (crossers m ls) c.0) (meet_among t.0 (crossers m ls) c.0 t.3 c.1)
    (among_passing (crosses_at m ls) (length ls) c.0 c.2 c.3)) in
    (crossers m ls, length_crossers m ls ∙ sym s.3, parted)

pub withstood : Withstood
withstood n ls k x y net lx ly ne = (leaves, holds)
  where
    leaves : k ≤ level_of n ls x y → (gone : List ℕ) → length gone < k → Left ls x y gone
    leaves h gone few =
        reach n ls k x y net (tied_from_level n ls k x y net lx ly h) gone few n (x ∷ []) (grown_start n ls gone x lx) (omega arith)

    holds : ((gone : List ℕ) → length gone < k → Left ls x y gone) → k ≤ level_of n ls x y
    holds h = elim (cases_lt (level_of n ls x y) k) [
      | inl l ↦ (let c = cut_off n ls x y lx ly ne in absurd (c.2 (h c.0 (omega (arith, c.1)))))
      | inr l ↦ l
    ]
