-- The pass of a booking's number, where it is the first that is found.
use Rattle.std.proofs.Common.{◌≡◌, ℕ, suc, ◌<◌, ◌≤◌, false, eqb, ltb, List, [], ◌∷◌, length, get_or, Some, None, find, position, refl, ap, ◌∙◌, inl, inr, arith}
use Rattle.std.specs.List.{position_or_len}
use Rattle.std.proofs.lemmas.Bool.{cases_Bool, eqb-true}
use Rattle.network.specs.Lists.{among}
use Rattle.desk.specs.declared.pass.Pass.{Pass}
use Rattle.desk.specs.Passes.{number_of, numbers_of, Held}

-- the first place of a number
first : ℕ → List Pass → ℕ
first j ps = position_or_len (λ p. eqb (number_of p) j) ps

stands_first : (ps : List Pass) (j : ℕ) → first j ps < length ps → get_or (numbers_of ps) (first j ps) 0 ≡ j
unfolding first
stands_first [] j l = absurd (let z : ⊥ = omega arith in z)
stands_first (p ∷ ps) j l =
    elim (cases_Bool (eqb (number_of p) j)) [
      | inl t ↦ rw t (eqb-true _ _ t)
      | inr f ↦ (let next : first j (p ∷ ps) ≡ suc (first j ps) = rw f (omega arith) in rw next (stands_first ps j (omega (arith, l, next))))
    ]

no_place : (ps : List Pass) (j : ℕ) → length ps ≤ first j ps → among (numbers_of ps) j ≡ false
unfolding first among
no_place [] j l = refl
no_place (p ∷ ps) j l =
    elim (cases_Bool (eqb (number_of p) j)) [
      | inl t ↦ absurd (let m = rw t at l in let z : ⊥ = omega arith in z)
      | inr f ↦ (let m = rw f at l in rw f (no_place ps j (omega arith)))
    ]

pub placed : (ps : List Pass) (j k : ℕ) → Some k ≡ position (λ p. eqb (number_of p) j) ps → (k < length ps) × (get_or (numbers_of ps) k 0 ≡ j)
unfolding first
placed ps j k e =
    elim (cases_Bool (ltb (first j ps) (length ps))) [
      | inl t ↦
          (let same : Some k ≡ Some (first j ps) = rw t at e in
          let here : k ≡ first j ps = cc in
          let within : first j ps < length ps = grind (arith, t) in
          rw here (within, stands_first ps j within))
      | inr f ↦ absurd (let none : Some k ≡ None = rw f at e in let z : ◌≡◌ {A = ℕ} 0 1 = cc in let w : ⊥ = omega arith in w)
    ]

pub not_placed : (ps : List Pass) (j : ℕ) → None ≡ position (λ p. eqb (number_of p) j) ps → among (numbers_of ps) j ≡ false
unfolding first
not_placed ps j e =
    elim (cases_Bool (ltb (first j ps) (length ps))) [
      | inl t ↦ absurd (let some : None ≡ Some (first j ps) = rw t at e in let z : ◌≡◌ {A = ℕ} 0 1 = cc in let w : ⊥ = omega arith in w)
      | inr f ↦ no_place ps j (grind (arith, f))
    ]

pub held : (ps : List Pass) (j : ℕ) (p : Pass) → Some p ≡ find (λ p. eqb (number_of p) j) ps → Held ps j p
held [] j p e = absurd (let z : ◌≡◌ {A = ℕ} 0 1 = cc in let w : ⊥ = omega arith in w)
held (q ∷ ps) j p e =
    elim (cases_Bool (eqb (number_of q) j)) [
      | inl t ↦ (let same : Some p ≡ Some q = rw t at e in let here : p ≡ q = cc in
          record { place = 0; within = omega arith; here = here; number = ap number_of here ∙ eqb-true _ _ t })
      | inr f ↦ (let h = held ps j p (rw f at e) in
          record { place = suc h.place; within = omega (arith, h.within); here = h.here; number = h.number })
    ]

pub not_held : (ps : List Pass) (j : ℕ) → None ≡ find (λ p. eqb (number_of p) j) ps → among (numbers_of ps) j ≡ false
unfolding among
not_held [] j e = refl
not_held (q ∷ ps) j e =
    elim (cases_Bool (eqb (number_of q) j)) [
      | inl t ↦ absurd (let same : None ≡ Some q = rw t at e in let z : ◌≡◌ {A = ℕ} 0 1 = cc in let w : ⊥ = omega arith in w)
      | inr f ↦ rw f (not_held ps j (rw f at e))
    ]
