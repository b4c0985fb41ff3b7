-- A set of places hanging from one of them, and its split along a least side, for any submodular count.
use Rattle.std.proofs.Common.{◌≡◌, ℕ, ◌<◌, Bool, true, false, not, ◌&&◌, sym, ◌∙◌, inl, inr}
use Rattle.std.proofs.lemmas.Bool.{cases_Bool, and_parts, and_cases, not-true, not-false, false≢true}
use Rattle.network.proofs.Ties.{Tied, SubmodularCount, tied_sym, tied_trans, step_inside, step_outside}

-- a place outside N is tied to no place of N more than to s; it may be any place below n, joined or not
unfoldable pub Apart : ℕ → ((ℕ → Bool) → ℕ) → (ℕ → Bool) → ℕ → Type 0
Apart n c N s = (x z k : ℕ) → x < n → N x ≡ false → N z ≡ true → Tied c k x z → Tied c k x s

-- X is a least set with s and without t
module _ (n : ℕ) (c : (ℕ → Bool) → ℕ) (sub : SubmodularCount c) (N X : ℕ → Bool) (s t : ℕ) (apart : Apart n c N s)
    (xs : X s ≡ true) (xt : X t ≡ false) (least : Tied c (c X) s t) where
  pub split_inside : Apart n c (λ i. N i && X i) s
  unfolding Apart
  split_inside x z k lx out inn h =
      let zn = and_parts (N z) (X z) inn in
      elim (cases_Bool (N x)) [
        | inr p ↦ apart x z k lx p zn.0 h
        | inl p ↦ (let q : X x ≡ false = elim (and_cases (N x) (X x) out) [ inl f ↦ absurd (false≢true (sym f ∙ p)) | inr f ↦ f ] in
            tied_trans c k x z s h (step_inside c sub X k z x s t zn.1 q xs xt least (tied_sym c k x z h)))
      ]

  pub split_outside : Apart n c (λ i. N i && not (X i)) t
  unfolding Apart
  split_outside x z k lx out inn h =
      let zn = and_parts (N z) (not (X z)) inn in
      let zx = not-true (X z) zn.1 in
      elim (cases_Bool (X x)) [
        | inl p ↦ tied_trans c k x z t h (tied_sym c k t z (step_outside c sub X k x z s t p zx xs xt least h))
        | inr p ↦ elim (cases_Bool (N x)) [
          | inl q ↦ absurd (false≢true (elim (and_cases (N x) (not (X x)) out) [ inl f ↦ sym f ∙ q | inr f ↦ sym p ∙ not-false (X x) f ]))
          | inr q ↦ tied_sym c k t x (step_outside c sub X k s x s t xs p xs xt least (tied_sym c k x s (apart x z k lx q zn.0 h)))
        ]
      ]
