-- Places that no cheap set parts, for any submodular count on sets of places. The count need not be symmetric.
use Rattle.std.proofs.Common.{◌≡◌, ℕ, ◌+◌, ◌≤◌, Bool, true, false, ◌⊎◌, sym, refl, ◌∙◌, inl, inr, arith}
use Rattle.std.proofs.lemmas.Bool.{cases_Bool, false≢true}
use Rattle.network.specs.Sides.{differ}
use Rattle.network.proofs.Crossing.{both, either}

-- every set of places that holds exactly one of a and b counts k or more
unfoldable pub Tied : ((ℕ → Bool) → ℕ) → ℕ → ℕ → ℕ → Type 0
Tied c k a b = (m : ℕ → Bool) → differ (m a) (m b) ≡ true → k ≤ c m

-- two sets count at least as much as their intersection and their union
abbrev pub SubmodularCount : ((ℕ → Bool) → ℕ) → Type 0
SubmodularCount c = (m w : ℕ → Bool) → c (both m w) + c (either m w) ≤ c m + c w

pub differ_comm : (x y : Bool) → differ x y ≡ differ y x
differ_comm true true = refl
differ_comm true false = refl
differ_comm false true = refl
differ_comm false false = refl

differ_self : (x : Bool) → differ x x ≡ false
differ_self true = refl
differ_self false = refl

pub differ_false : (x y : Bool) → differ x y ≡ false → x ≡ y
differ_false true true e = refl
differ_false true false e = e
differ_false false true e = sym e
differ_false false false e = refl

pub differ_yes : (x y : Bool) → differ x y ≡ true → x ≡ true → y ≡ false
differ_yes true true e p = sym e
differ_yes true false e p = refl
differ_yes false true e p = sym p
differ_yes false false e p = refl

pub differ_no : (x y : Bool) → differ x y ≡ true → x ≡ false → y ≡ true
differ_no true true e p = refl
differ_no true false e p = sym p
differ_no false true e p = refl
differ_no false false e p = e

pub differ_parts : (x y : Bool) → x ≡ true → y ≡ false → differ x y ≡ true
differ_parts x y p q = rw (p, q)

-- what is apart from z is apart from y, or y is
differ_way : (x y z : Bool) → differ x z ≡ true → (differ x y ≡ true) ⊎ (differ y z ≡ true)
differ_way true true z e = inr e
differ_way true false z e = inl refl
differ_way false true z e = inl refl
differ_way false false z e = inr e

module _ (c : (ℕ → Bool) → ℕ) where
  pub tied_self : (k a : ℕ) → Tied c k a a
  unfolding Tied
  tied_self k a m p = absurd (false≢true (sym (differ_self (m a)) ∙ p))

  pub tied_sym : (k a b : ℕ) → Tied c k a b → Tied c k b a
  unfolding Tied
  tied_sym k a b h m p = h m (differ_comm (m a) (m b) ∙ p)

  pub tied_trans : (k a b d : ℕ) → Tied c k a b → Tied c k b d → Tied c k a d
  unfolding Tied
  tied_trans k a b d h g m p = elim (differ_way (m a) (m b) (m d) p) [ inl q ↦ h m q | inr q ↦ g m q ]

  pub tied_weaker : (j k a b : ℕ) → j ≤ k → Tied c k a b → Tied c j a b
  unfolding Tied
  tied_weaker j k a b l h m p = omega (arith, h m p)

-- X is a least set between s and t, with u and s in it and t and v outside
module _ (c : (ℕ → Bool) → ℕ) (sub : SubmodularCount c) (X : ℕ → Bool) (k u v s t : ℕ)
    (xu : X u ≡ true) (xv : X v ≡ false) (xs : X s ≡ true) (xt : X t ≡ false)
    (least : Tied c (c X) s t) (h : Tied c k u v) where
  pub step_across : Tied c k s t
  unfolding Tied
  step_across m p = omega (arith, h X (differ_parts _ _ xu xv), least m p)

  -- a set with u and v, and without s and t: it meets X in a set with u and without v, and joins it to one that
  -- parts s from t
  outer_corner : (C : ℕ → Bool) → C u ≡ true → C v ≡ true → C s ≡ false → C t ≡ false → k ≤ c C
  unfolding Tied
  outer_corner C cu cv cs ct =
      let p : differ (both X C u) (both X C v) ≡ true = rw (xu, xv, cu) in
      let q : differ (either X C s) (either X C t) ≡ true = rw (xs, xt, ct) in
      omega (arith, h (both X C) p, least (either X C) q, sub X C)

  -- a set with s and t, and without u and v: the other way round
  inner_corner : (C : ℕ → Bool) → C u ≡ false → C v ≡ false → C s ≡ true → C t ≡ true → k ≤ c C
  unfolding Tied
  inner_corner C cu cv cs ct =
      let p : differ (either X C u) (either X C v) ≡ true = rw (xu, xv, cv) in
      let q : differ (both X C s) (both X C t) ≡ true = rw (xs, xt, cs) in
      omega (arith, h (either X C) p, least (both X C) q, sub X C)

  corners : (C : ℕ → Bool) → C u ≡ C v → C s ≡ C t → differ (C u) (C s) ≡ true → k ≤ c C
  corners C e f d =
      elim (cases_Bool (C u)) [
        | inl p ↦ (let q : C s ≡ false = differ_yes _ _ d p in outer_corner C p (sym e ∙ p) q (sym f ∙ q))
        | inr p ↦ (let q : C s ≡ true = differ_no _ _ d p in inner_corner C p (sym e ∙ p) q (sym f ∙ q))
      ]

  any : (C : ℕ → Bool) → (differ (C u) (C s) ≡ true) ⊎ (differ (C t) (C v) ≡ true) → k ≤ c C
  unfolding Tied
  any C d =
      elim (cases_Bool (differ (C u) (C v))) [
        | inl p ↦ h C p
        | inr p ↦ elim (cases_Bool (differ (C s) (C t))) [
          | inl q ↦ step_across C q
          | inr q ↦ (let e = differ_false _ _ p in let f = differ_false _ _ q in
              corners C e f (elim d [ inl g ↦ g | inr g ↦ rw (e, f) (differ_comm (C v) (C t) ∙ g) ]))
        ]
      ]

  pub step_inside : Tied c k u s
  unfolding Tied
  step_inside m p = any m (inl p)

  pub step_outside : Tied c k t v
  unfolding Tied
  step_outside m p = any m (inr p)
