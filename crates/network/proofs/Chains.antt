-- Laws of chains of lines and of separate routes.
use Rattle.std.proofs.Common.{◌≡◌, ℕ, zero, suc, ◌<◌, ◌≤◌, Bool, true, false, not, ◌&&◌, ◌||◌, eqb, ltb, ◌≢◌, ◌⊎◌, List, [], ◌∷◌, ◌++◌, length, get_or, take, drop, sym, refl, ap, ◌∙◌, ap₂, inl, inr, arith}
use mathlib.Core.Bool.{or_assoc, and_assoc}
use Rattle.std.proofs.lemmas.Bool.{eqb-true, eq-eqb, ne_eqb, lt-ltb, ltb-true, cases_eq, cases_Bool, both_ways, false≢true, and_parts, and_from, or_cases, or_parts, or_from, or_left, or_right, not-true, not_from_false}
use Rattle.network.specs.declared.line.Line.{Line}
use Rattle.network.specs.Lines.{is_free, line_at}
use Rattle.network.specs.Sides.{differ}
use Rattle.network.specs.Cuts.{crosses}
use Rattle.network.specs.Lists.{among, distinct, meet}
use Rattle.network.specs.Routes.{touches, other_end, chained, stops, end_of, route, free_at, free_route, meets_any, separate, on_any}
use Rattle.network.proofs.Ties.{differ_comm, differ_false}
use Rattle.network.proofs.Lists.{among_here, among_later, among_cases, among_none, every_among, meet_among, meet_from_among}

-- the far end of a line

-- a line that has an end at x leads from it to its other end
pub other_end_cases : (l : Line) (x : ℕ) → touches l x ≡ true → ((l.first ≡ x) × (other_end l x ≡ l.second)) ⊎ ((l.second ≡ x) × (other_end l x ≡ l.first))
other_end_cases l x t =
    elim (cases_eq l.first x) [
      | inl e ↦ inl (e, rw (eq-eqb l.first x e))
      | inr ne ↦ inr (
        elim (or_cases (eqb l.first x) (eqb l.second x) t) [
          | inl e ↦ absurd (ne (eqb-true l.first x e))
          | inr e ↦ eqb-true l.second x e
        ],
        rw (ne_eqb l.first x ne),
      )
    ]

pub touches_first : (l : Line) → touches l l.first ≡ true
touches_first l = or_left _ _ (eq-eqb l.first l.first refl)

pub touches_second : (l : Line) → touches l l.second ≡ true
touches_second l = or_right (eqb l.first l.second) _ (eq-eqb l.second l.second refl)

pub other_end_first : (l : Line) → other_end l l.first ≡ l.second
other_end_first l = rw (eq-eqb l.first l.first refl)

pub other_end_second : (l : Line) → l.first ≢ l.second → other_end l l.second ≡ l.first
other_end_second l ne = rw (ne_eqb l.first l.second ne)

-- a line whose ends a set parts is parted at any of them
pub differ_other_end : (m : ℕ → Bool) (l : Line) (x : ℕ) → touches l x ≡ true → differ (m x) (m (other_end l x)) ≡ differ (m l.first) (m l.second)
differ_other_end m l x t =
    elim (other_end_cases l x t) [
      | inl e ↦ ap₂ (λ a b. differ (m a) (m b)) (sym e.0) e.1
      | inr e ↦ ap₂ (λ a b. differ (m a) (m b)) (sym e.0) e.1 ∙ differ_comm (m l.second) (m l.first)
    ]

-- chains

module _ (ls : List Line) where
  pub chained_none : (x : ℕ) → chained ls x [] ≡ true
  unfolding chained
  chained_none x = refl

  pub chained_cons : (x p : ℕ) (r : List ℕ) → p < length ls → touches (line_at ls p) x ≡ true → chained ls (other_end (line_at ls p) x) r ≡ true → chained ls x (p ∷ r) ≡ true
  unfolding chained
  chained_cons x p r l t c = and_from (ltb p (length ls)) _ (lt-ltb p (length ls) l) (and_from (touches (line_at ls p) x) _ t c)

  pub chained_parts : (x p : ℕ) (r : List ℕ) → chained ls x (p ∷ r) ≡ true → (p < length ls) × (touches (line_at ls p) x ≡ true) × (chained ls (other_end (line_at ls p) x) r ≡ true)
  unfolding chained
  chained_parts x p r h =
      let a = and_parts (ltb p (length ls)) (touches (line_at ls p) x && chained ls (other_end (line_at ls p) x) r) h in
      let b = and_parts (touches (line_at ls p) x) (chained ls (other_end (line_at ls p) x) r) a.1 in
      (ltb-true p (length ls) a.0, b.0, b.1)

  -- each line of a chain is in the table
  pub chained_below : (x : ℕ) (r : List ℕ) (p : ℕ) → chained ls x r ≡ true → among r p ≡ true → p < length ls
  chained_below x [] p h a = absurd (among_none p a)
  chained_below x (q ∷ r) p h a =
      let c = chained_parts x q r h in
      elim (among_cases q p r a) [ inl e ↦ omega (arith, c.0) | inr b ↦ chained_below (other_end (line_at ls q) x) r p c.2 b ]

  pub end_of_none : (x : ℕ) → end_of ls x [] ≡ x
  unfolding end_of
  end_of_none x = refl

  pub end_of_cons : (x p : ℕ) (r : List ℕ) → end_of ls x (p ∷ r) ≡ end_of ls (other_end (line_at ls p) x) r
  unfolding end_of
  end_of_cons x p r = refl

  pub stops_none : (x : ℕ) → stops ls x [] ≡ []
  unfolding stops
  stops_none x = refl

  pub stops_cons : (x p : ℕ) (r : List ℕ) → stops ls x (p ∷ r) ≡ other_end (line_at ls p) x ∷ stops ls (other_end (line_at ls p) x) r
  unfolding stops
  stops_cons x p r = refl

  pub length_stops : (x : ℕ) (r : List ℕ) → length (stops ls x r) ≡ length r
  unfolding stops
  length_stops x [] = refl
  length_stops x (p ∷ r) = ap suc (length_stops (other_end (line_at ls p) x) r)

  pub end_of_append : (x : ℕ) (r s : List ℕ) → end_of ls x (r ++ s) ≡ end_of ls (end_of ls x r) s
  unfolding end_of
  end_of_append x [] s = refl
  end_of_append x (p ∷ r) s = end_of_append (other_end (line_at ls p) x) r s

  pub stops_append : (x : ℕ) (r s : List ℕ) → stops ls x (r ++ s) ≡ stops ls x r ++ stops ls (end_of ls x r) s
  unfolding stops end_of
  stops_append x [] s = refl
  stops_append x (p ∷ r) s = ap {B = List ℕ} (λ t. other_end (line_at ls p) x ∷ t) (stops_append (other_end (line_at ls p) x) r s)

  pub chained_append : (x : ℕ) (r s : List ℕ) → chained ls x (r ++ s) ≡ (chained ls x r && chained ls (end_of ls x r) s)
  unfolding chained end_of
  chained_append x [] s = refl
  chained_append x (p ∷ r) s =
      let y = other_end (line_at ls p) x in let t = touches (line_at ls p) x in
      ap (λ b. ltb p (length ls) && (t && b)) (chained_append y r s)
      ∙ ap (λ b. ltb p (length ls) && b) (sym (and_assoc t (chained ls y r) (chained ls (end_of ls y r) s)))
      ∙ sym (and_assoc (ltb p (length ls)) (t && chained ls y r) (chained ls (end_of ls y r) s))

  -- one line more at the end
  pub chained_push : (x : ℕ) (r : List ℕ) (p : ℕ) → chained ls x r ≡ true → p < length ls → touches (line_at ls p) (end_of ls x r) ≡ true → chained ls x (r ++ p ∷ []) ≡ true
  chained_push x r p c l t =
      chained_append x r (p ∷ []) ∙ and_from (chained ls x r) _ c (chained_cons (end_of ls x r) p [] l t (chained_none _))

  pub end_of_push : (x : ℕ) (r : List ℕ) (p : ℕ) → end_of ls x (r ++ p ∷ []) ≡ other_end (line_at ls p) (end_of ls x r)
  unfolding end_of
  end_of_push x r p = end_of_append x r (p ∷ [])

  pub stops_push : (x : ℕ) (r : List ℕ) (p : ℕ) → stops ls x (r ++ p ∷ []) ≡ stops ls x r ++ other_end (line_at ls p) (end_of ls x r) ∷ []
  unfolding stops
  stops_push x r p = stops_append x r (p ∷ [])

  -- the first i lines, and those after them
  pub chained_take : (x : ℕ) (r : List ℕ) (i : ℕ) → chained ls x r ≡ true → chained ls x (take i r) ≡ true
  chained_take x r zero c = chained_none x
  chained_take x [] (suc i) c = c
  chained_take x (p ∷ r) (suc i) c =
      let h = chained_parts x p r c in chained_cons x p (take i r) h.0 h.1 (chained_take (other_end (line_at ls p) x) r i h.2)

  pub chained_drop : (x : ℕ) (r : List ℕ) (i : ℕ) → chained ls x r ≡ true → chained ls (end_of ls x (take i r)) (drop i r) ≡ true
  unfolding end_of
  chained_drop x r zero c = c
  chained_drop x [] (suc i) c = c
  chained_drop x (p ∷ r) (suc i) c = chained_drop (other_end (line_at ls p) x) r i (chained_parts x p r c).2

  pub stops_take : (x : ℕ) (r : List ℕ) (i : ℕ) → stops ls x (take i r) ≡ take i (stops ls x r)
  unfolding stops
  stops_take x r zero = refl
  stops_take x [] (suc i) = refl
  stops_take x (p ∷ r) (suc i) = ap {B = List ℕ} (λ t. other_end (line_at ls p) x ∷ t) (stops_take (other_end (line_at ls p) x) r i)

  pub stops_drop : (x : ℕ) (r : List ℕ) (i : ℕ) → stops ls (end_of ls x (take i r)) (drop i r) ≡ drop i (stops ls x r)
  unfolding stops end_of
  stops_drop x r zero = refl
  stops_drop x [] (suc i) = refl
  stops_drop x (p ∷ r) (suc i) = stops_drop (other_end (line_at ls p) x) r i

  -- the first i lines end at the place i of those that the chain passes, x itself at 0
  pub end_of_take : (x : ℕ) (r : List ℕ) (i d : ℕ) → i ≤ length r → end_of ls x (take i r) ≡ get_or (x ∷ stops ls x r) i d
  unfolding stops end_of
  end_of_take x r zero d l = refl
  end_of_take x [] (suc i) d l = absurd (let z : ⊥ = omega arith in z)
  end_of_take x (p ∷ r) (suc i) d l = end_of_take (other_end (line_at ls p) x) r i d (omega arith)

  -- a chain ends where it starts or at one of its stops
  pub end_of_among : (x : ℕ) (r : List ℕ) → among (x ∷ stops ls x r) (end_of ls x r) ≡ true
  unfolding stops end_of
  end_of_among x [] = among_here x []
  end_of_among x (p ∷ r) = among_later x _ _ (end_of_among (other_end (line_at ls p) x) r)

  -- a chain from one side of a set to the other has a line whose ends the set parts
  pub chain_parted : (m : ℕ → Bool) (x : ℕ) (r : List ℕ) → chained ls x r ≡ true → differ (m x) (m (end_of ls x r)) ≡ true
      → (p : ℕ) × (among r p ≡ true) × (p < length ls) × (differ (m (line_at ls p).first) (m (line_at ls p).second) ≡ true)
  unfolding end_of
  chain_parted m x [] c d = absurd (false≢true (sym (same (m x)) ∙ d))
    where
      same : (b : Bool) → differ b b ≡ false
      same true = refl
      same false = refl
  chain_parted m x (p ∷ r) c d =
      let y = other_end (line_at ls p) x in
      let h = chained_parts x p r c in
      elim (cases_Bool (differ (m x) (m y))) [
        | inl e ↦ (p, among_here p r, h.0, sym (differ_other_end m (line_at ls p) x h.1) ∙ e)
        | inr e ↦ (let f = chain_parted m y r h.2 (ap (λ b. differ b (m (end_of ls y r))) (sym (differ_false (m x) (m y) e)) ∙ d) in
            (f.0, among_later p f.0 r f.1, f.2, f.3))
      ]

  -- .. a free one, so one that crosses it, where all are free
  pub chain_crosses : (m : ℕ → Bool) (x : ℕ) (r : List ℕ) → chained ls x r ≡ true → free_route ls r ≡ true → differ (m x) (m (end_of ls x r)) ≡ true
      → (p : ℕ) × (among r p ≡ true) × (p < length ls) × (crosses m (line_at ls p) ≡ true)
  chain_crosses m x r c f d =
      let h = chain_parted m x r c d in
      (h.0, h.1, h.2, and_from (is_free (line_at ls h.0).state) _ (every_among (free_at ls) r h.0 f h.1) h.3)

  -- routes

  pub route_parts : (a b : ℕ) (r : List ℕ) → route ls a b r ≡ true → (chained ls a r ≡ true) × (end_of ls a r ≡ b) × (distinct (a ∷ stops ls a r) ≡ true)
  route_parts a b r h =
      let p = and_parts (chained ls a r) (eqb (end_of ls a r) b && distinct (a ∷ stops ls a r)) h in
      let q = and_parts (eqb (end_of ls a r) b) (distinct (a ∷ stops ls a r)) p.1 in
      (p.0, eqb-true (end_of ls a r) b q.0, q.1)

  pub route_from : (a b : ℕ) (r : List ℕ) → chained ls a r ≡ true → end_of ls a r ≡ b → distinct (a ∷ stops ls a r) ≡ true → route ls a b r ≡ true
  route_from a b r c e d =
      and_from (chained ls a r) _ c (and_from (eqb (end_of ls a r) b) _ (eq-eqb (end_of ls a r) b e) d)

  -- a route of free lines between two places crosses each set that holds exactly one of them
  pub route_crosses : (m : ℕ → Bool) (a b : ℕ) (r : List ℕ) → route ls a b r ≡ true → free_route ls r ≡ true → differ (m a) (m b) ≡ true
      → (p : ℕ) × (among r p ≡ true) × (p < length ls) × (crosses m (line_at ls p) ≡ true)
  route_crosses m a b r h f d =
      let p = route_parts a b r h in
      chain_crosses m a r p.0 f (ap (λ e. differ (m a) (m e)) p.1 ∙ d)

-- separate routes

pub on_any_none : (p : ℕ) → on_any [] p ≡ true → ⊥
unfolding on_any
on_any_none p h = false≢true h

pub on_any_cons : (r : List ℕ) (rs : List (List ℕ)) (p : ℕ) → on_any (r ∷ rs) p ≡ (among r p || on_any rs p)
unfolding on_any
on_any_cons r rs p = refl

pub on_any_cases : (r : List ℕ) (rs : List (List ℕ)) (p : ℕ) → on_any (r ∷ rs) p ≡ true → (among r p ≡ true) ⊎ (on_any rs p ≡ true)
unfolding on_any
on_any_cases r rs p h = or_cases (among r p) (on_any rs p) h

pub on_any_first : (r : List ℕ) (rs : List (List ℕ)) (p : ℕ) → among r p ≡ true → on_any (r ∷ rs) p ≡ true
unfolding on_any
on_any_first r rs p h = or_left (among r p) (on_any rs p) h

pub on_any_later : (r : List ℕ) (rs : List (List ℕ)) (p : ℕ) → on_any rs p ≡ true → on_any (r ∷ rs) p ≡ true
unfolding on_any
on_any_later r rs p h = or_right (among r p) (on_any rs p) h

pub on_any_append : (rs ss : List (List ℕ)) (p : ℕ) → on_any (rs ++ ss) p ≡ (on_any rs p || on_any ss p)
unfolding on_any
on_any_append [] ss p = refl
on_any_append (r ∷ rs) ss p = ap (λ b. among r p || b) (on_any_append rs ss p) ∙ sym (or_assoc (among r p) (on_any rs p) (on_any ss p))

pub on_any_get_or : (rs : List (List ℕ)) (i : ℕ) (d : List ℕ) (p : ℕ) → i < length rs → among (get_or rs i d) p ≡ true → on_any rs p ≡ true
on_any_get_or [] i d p l a = absurd (let z : ⊥ = omega arith in z)
on_any_get_or (r ∷ rs) zero d p l a = on_any_first r rs p a
on_any_get_or (r ∷ rs) (suc i) d p l a = on_any_later r rs p (on_any_get_or rs i d p (omega arith) a)

pub on_any_index : (rs : List (List ℕ)) (d : List ℕ) (p : ℕ) → on_any rs p ≡ true → (i : ℕ) × (i < length rs) × (among (get_or rs i d) p ≡ true)
on_any_index [] d p h = absurd (on_any_none p h)
on_any_index (r ∷ rs) d p h =
    elim (on_any_cases r rs p h) [
      | inl a ↦ (0, omega arith, a)
      | inr b ↦ (let f = on_any_index rs d p b in (suc f.0, omega (arith, f.1), f.2))
    ]

pub meets_any_none : (r : List ℕ) → meets_any r [] ≡ false
unfolding meets_any
meets_any_none r = refl

pub meets_any_parts : (r s : List ℕ) (rs : List (List ℕ)) → meets_any r (s ∷ rs) ≡ false → (meet r s ≡ false) × (meets_any r rs ≡ false)
unfolding meets_any
meets_any_parts r s rs h = or_parts (meet r s) (meets_any r rs) h

pub meets_any_cons : (r s : List ℕ) (rs : List (List ℕ)) → meet r s ≡ false → meets_any r rs ≡ false → meets_any r (s ∷ rs) ≡ false
unfolding meets_any
meets_any_cons r s rs p q = or_from (meet r s) (meets_any r rs) p q

-- a line of r is on none of the routes that r does not meet
pub meets_any_among : (r : List ℕ) (rs : List (List ℕ)) (p : ℕ) → meets_any r rs ≡ false → among r p ≡ true → on_any rs p ≡ false
unfolding on_any
meets_any_among r [] p h a = refl
meets_any_among r (s ∷ rs) p h a =
    let m = meets_any_parts r s rs h in or_from (among s p) (on_any rs p) (meet_among r s p m.0 a) (meets_any_among r rs p m.1 a)

pub meets_any_from_among : (r : List ℕ) (rs : List (List ℕ)) → ((p : ℕ) → among r p ≡ true → on_any rs p ≡ false) → meets_any r rs ≡ false
unfolding on_any
meets_any_from_among r [] h = meets_any_none r
meets_any_from_among r (s ∷ rs) h =
    meets_any_cons r s rs (meet_from_among r s (λ p a. (or_parts (among s p) (on_any rs p) (h p a)).0))
    (meets_any_from_among r rs (λ p a. (or_parts (among s p) (on_any rs p) (h p a)).1))

pub separate_none : separate [] ≡ true
unfolding separate
separate_none = refl

pub separate_cons : (r : List ℕ) (rs : List (List ℕ)) → meets_any r rs ≡ false → separate rs ≡ true → separate (r ∷ rs) ≡ true
unfolding separate
separate_cons r rs m s = and_from (not (meets_any r rs)) (separate rs) (not_from_false (meets_any r rs) m) s

pub separate_parts : (r : List ℕ) (rs : List (List ℕ)) → separate (r ∷ rs) ≡ true → (meets_any r rs ≡ false) × (separate rs ≡ true)
unfolding separate
separate_parts r rs h =
    let p = and_parts (not (meets_any r rs)) (separate rs) h in (not-true (meets_any r rs) p.0, p.1)

-- no line on two of the routes, by their indices
pub separate_get_or : (rs : List (List ℕ)) (i j : ℕ) (d : List ℕ) (p : ℕ) → separate rs ≡ true → i < length rs → j < length rs
    → among (get_or rs i d) p ≡ true → among (get_or rs j d) p ≡ true → i ≡ j
separate_get_or [] i j d p s l k a b = absurd (let z : ⊥ = omega arith in z)
separate_get_or (r ∷ rs) zero zero d p s l k a b = refl
separate_get_or (r ∷ rs) zero (suc j) d p s l k a b =
    absurd (both_ways (on_any rs p) (meets_any_among r rs p (separate_parts r rs s).0 a) (on_any_get_or rs j d p (omega arith) b))
separate_get_or (r ∷ rs) (suc i) zero d p s l k a b =
    absurd (both_ways (on_any rs p) (meets_any_among r rs p (separate_parts r rs s).0 b) (on_any_get_or rs i d p (omega arith) a))
separate_get_or (r ∷ rs) (suc i) (suc j) d p s l k a b =
    ap suc (separate_get_or rs i j d p (separate_parts r rs s).1 (omega arith) (omega arith) a b)

pub separate_from_get_or : (rs : List (List ℕ)) (d : List ℕ)
    → ((i j p : ℕ) → i < length rs → j < length rs → among (get_or rs i d) p ≡ true → among (get_or rs j d) p ≡ true → i ≡ j) → separate rs ≡ true
separate_from_get_or [] d h = separate_none
separate_from_get_or (r ∷ rs) d h =
    separate_cons r rs (meets_any_from_among r rs fresh)
    (separate_from_get_or rs d (λ i j p l k a b. omega (arith, h (suc i) (suc j) p (omega arith) (omega arith) a b)))
  where
    fresh : (p : ℕ) → among r p ≡ true → on_any rs p ≡ false
    fresh p a = elim (cases_Bool (on_any rs p)) [
      | inl o ↦ (let f = on_any_index rs d p o in absurd (let z : ⊥ = omega (arith, h 0 (suc f.0) p (omega arith) (omega (arith, f.1)) a f.2) in z))
      | inr o ↦ o
    ]

-- one route more at the end, that no line of the others is on
pub separate_push : (rs : List (List ℕ)) (r : List ℕ) → separate rs ≡ true → ((p : ℕ) → among r p ≡ true → on_any rs p ≡ false) → separate (rs ++ r ∷ []) ≡ true
separate_push [] r s h = separate_cons r [] (meets_any_none r) separate_none
separate_push (t ∷ rs) r s h =
    let q = separate_parts t rs s in
    separate_cons t (rs ++ r ∷ []) (meets_any_from_among t (rs ++ r ∷ []) apart)
    (separate_push rs r q.1 (λ p a. (or_parts (among t p) (on_any rs p) (sym (on_any_cons t rs p) ∙ h p a)).1))
  where
    last : (p : ℕ) → on_any (r ∷ []) p ≡ true → among r p ≡ true
    last p o = elim (on_any_cases r [] p o) [ inl a ↦ a | inr b ↦ absurd (on_any_none p b) ]

    apart : (p : ℕ) → among t p ≡ true → on_any (rs ++ r ∷ []) p ≡ false
    apart p a =
        on_any_append rs (r ∷ []) p ∙ or_from (on_any rs p) (on_any (r ∷ []) p) (meets_any_among t rs p (separate_parts t rs s).0 a)
        (elim (cases_Bool (on_any (r ∷ []) p)) [
          | inl o ↦ absurd (both_ways (on_any (t ∷ rs) p) (h p (last p o)) (on_any_first t rs p a))
          | inr o ↦ o
        ])
