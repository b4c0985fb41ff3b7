-- One step of a route at a time.
use Rattle.std.proofs.Common.{◌≡◌, ℕ, ◌<◌, true, false, eqb, List, [], ◌∷◌, length, sym, refl, ◌∙◌, subst, inl, inr}
use Rattle.std.proofs.lemmas.Bool.{and_parts, eqb-true, eq-eqb, ltb-true, not-true, or_cases, or_left, or_right, false≢true, cases_Bool}
use Rattle.network.specs.declared.line.Line.{Line}
use Rattle.network.specs.Lines.{line_at}
use Rattle.network.specs.Lists.{among, distinct}
use Rattle.network.specs.Routes.{touches, other_end, chained, stops, end_of, route}

-- the chain r goes on from x to b, and comes to no place of `seen` and to none twice
pub record Onward (ls : List Line) (b : ℕ) (seen : List ℕ) (x : ℕ) (r : List ℕ) : Type 0 where
  pub chain : chained ls x r ≡ true
  pub ends : end_of ls x r ≡ b
  pub clear : (y : ℕ) → among seen y ≡ true → among (stops ls x r) y ≡ false
  pub once : distinct (stops ls x r) ≡ true

pub onward_from_route : (ls : List Line) (a b : ℕ) (r : List ℕ) → route ls a b r ≡ true → Onward ls b (a ∷ []) a r
unfolding distinct among
onward_from_route ls a b r h =
    let c = and_parts _ _ h in
    let d = and_parts _ _ c.1 in
    let e = and_parts _ _ d.1 in
    record {
      chain = c.0;
      ends = eqb-true _ _ d.0;
      clear = λ y m. elim (or_cases _ _ m) [
        | inl q ↦ subst (λ z. among (stops ls a r) z ≡ false) (eqb-true a y q) (not-true _ e.0)
        | inr q ↦ absurd (false≢true q)
      ];
      once = e.1;
    }

pub record Stepped (ls : List Line) (b : ℕ) (seen : List ℕ) (x p : ℕ) (r : List ℕ) : Type 0 where
  pub within : p < length ls
  pub here : touches (line_at ls p) x ≡ true
  pub new : among seen (other_end (line_at ls p) x) ≡ false
  pub on : Onward ls b (other_end (line_at ls p) x ∷ seen) (other_end (line_at ls p) x) r

pub stepped : (ls : List Line) (b : ℕ) (seen : List ℕ) (x p : ℕ) (r : List ℕ) → Onward ls b seen x (p ∷ r) → Stepped ls b seen x p r
unfolding chained stops end_of distinct among
stepped ls b seen x p r h =
    let y = other_end (line_at ls p) x in
    let c = and_parts _ _ h.chain in
    let d = and_parts _ _ c.1 in
    let o = and_parts _ _ h.once in
    let fresh : among seen y ≡ false = elim (cases_Bool (among seen y)) [
      | inl m ↦ absurd (false≢true (sym (h.clear y m) ∙ or_left _ _ (eq-eqb y y refl)))
      | inr m ↦ m
    ] in
    record {
      within = ltb-true _ _ c.0;
      here = d.0;
      new = fresh;
      on = record {
        chain = d.1;
        ends = h.ends;
        clear = λ z m. elim (or_cases _ _ m) [
          | inl q ↦ subst (λ w. among (stops ls y r) w ≡ false) (eqb-true y z q) (not-true _ o.0)
          | inr q ↦ elim (cases_Bool (among (stops ls y r) z)) [
            | inl u ↦ absurd (false≢true (sym (h.clear z q) ∙ or_right _ _ u))
            | inr u ↦ u
          ]
        ];
        once = o.1;
      };
    }

-- a chain of one line or more ends at its last stop
pub ends_among : (ls : List Line) (x p : ℕ) (r : List ℕ) → among (stops ls x (p ∷ r)) (end_of ls x (p ∷ r)) ≡ true
unfolding stops end_of among
ends_among ls x p [] = let y = other_end (line_at ls p) x in or_left (eqb y y) false (eq-eqb y y refl)
ends_among ls x p (q ∷ r) =
    let y = other_end (line_at ls p) x in
    or_right (eqb y (end_of ls y (q ∷ r))) (among (stops ls y (q ∷ r)) (end_of ls y (q ∷ r))) (ends_among ls y q r)

-- so a chain that is at b, and has been there, goes no further
pub at_end : (ls : List Line) (b : ℕ) (seen r : List ℕ) → among seen b ≡ true → Onward ls b seen b r → r ≡ []
at_end ls b seen [] m h = refl
at_end ls b seen (p ∷ r) m h =
    absurd (false≢true (sym (h.clear b m) ∙ subst (λ z. among (stops ls b (p ∷ r)) z ≡ true) h.ends (ends_among ls b p r)))
