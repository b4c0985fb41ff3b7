-- The lowest position at which a test holds.
use Rattle.std.proofs.Common.{◌≡◌, ℕ, zero, suc, ◌<◌, ◌≤◌, Bool, true, false, Some, None, Option, List, length, get_or, MatchOption, sym, refl, subst, inl, inr, arith}
use Rattle.std.proofs.lemmas.Bool.{cases_eq}
use Rattle.std.specs.List.{AllWithin, HoldsAt}
use Rattle.netfile.specs.Search.{lowest_where}

-- the test holds at i, below n, and at no position before
pub record Lowest (P : ℕ → Bool) (n i : ℕ) : Type 0 where
  pub within : i < n
  pub here : P i ≡ true
  pub before : (k : ℕ) → k < i → P k ≡ false

module _ (P : ℕ → Bool) where
  pub lowest_none : (n : ℕ) → ((k : ℕ) → k < n → P k ≡ false) → lowest_where P n ≡ None
  unfolding lowest_where
  lowest_none zero h = refl
  lowest_none (suc n) h = rw (lowest_none n (λ k l. h k (omega arith)), h n (omega arith))

  pub lowest_first : (i n : ℕ) → ((k : ℕ) → k < i → P k ≡ false) → P i ≡ true → i < n → lowest_where P n ≡ Some i
  unfolding lowest_where
  lowest_first i zero h e l = absurd (omega arith)
  lowest_first i (suc n) h e l =
      elim (cases_eq i n) [
        | inl same ↦
            let h' : lowest_where P n ≡ None = lowest_none n (λ k m. h k (omega arith)) in
            let e' : P n ≡ true = subst (λ (m : ℕ). P m ≡ true) same e in rw (h', e', same)
        | inr other ↦ rw (lowest_first i n h e (omega arith))
      ]

  -- a search that answers the first such position, or none, answers this
  pub lowest_from : (n : ℕ) (r : Option ℕ) → MatchOption r ((k : ℕ) → k < n → P k ≡ false) (λ i. Lowest P n i) → r ≡ lowest_where P n
  lowest_from n None h = sym (lowest_none n h)
  lowest_from n (Some i) h = sym (lowest_first i n h.before h.here h.within)

  -- .. over a range of numbers
  pub lowest_in_range : (m n : ℕ) (r : Option ℕ) → m ≡ n → MatchOption r ((k : ℕ) → 0 ≤ k → k < m → P k ≡ false) (λ i. (0 ≤ i) × (i < m) × (P i ≡ true) × ((k : ℕ) → 0 ≤ k → k < i → P k ≡ false)) → r ≡ lowest_where P n
  lowest_in_range m n None e h = lowest_from n None (λ k l. h k (omega arith) (omega (arith, e)))
  lowest_in_range m n (Some i) e h =
      lowest_from n (Some i) (record { within = omega (arith, h.1, e); here = h.2; before = λ k l. h.3 k (omega arith) l })

  -- either there is a lowest one or there is none
  pub data Found (n : ℕ) : Type 0 where
    found : (i : ℕ) → Lowest P n i → Found n
    missing : ((k : ℕ) → k < n → P k ≡ false) → Found n

  pub look : (n : ℕ) → Found n
  look zero = missing (λ k l. absurd (omega arith))
  look (suc n) = further n (look n) (P n) refl
    where
      further : (n : ℕ) → Found n → (b : Bool) → P n ≡ b → Found (suc n)
      further n (found i f) b e = found i (record { within = omega (arith, f.within); here = f.here; before = f.before })
      further n (missing h) true e = found n (record { within = omega arith; here = e; before = h })
      further n (missing h) false e =
          missing (λ k l. elim (cases_eq k n) [ inl same ↦ subst (λ (m : ℕ). P m ≡ false) (sym same) e | inr other ↦ h k (omega arith) ])

  -- what an answer says
  pub lowest_is : (n i : ℕ) → lowest_where P n ≡ Some i → Lowest P n i
  lowest_is n i e =
      elim (look n) [
        | found j f ↦
            let s : lowest_where P n ≡ Some j = lowest_first j n f.before f.here f.within in
            let same : j ≡ i = cc in subst (λ (m : ℕ). Lowest P n m) same f
        | missing h ↦
            let s : lowest_where P n ≡ None = lowest_none n h in
            let z : ◌≡◌ {A = ℕ} 0 1 = cc in absurd (omega arith)
      ]

  pub none_below : (n : ℕ) → lowest_where P n ≡ None → (k : ℕ) → k < n → P k ≡ false
  none_below n e =
      elim (look n) [
        | found j f ↦
            let s : lowest_where P n ≡ Some j = lowest_first j n f.before f.here f.within in
            let z : ◌≡◌ {A = ℕ} 0 1 = cc in absurd (omega arith)
        | missing h ↦ h
      ]

-- two tests that agree below n
pub lowest_same : (P Q : ℕ → Bool) (n : ℕ) → ((k : ℕ) → k < n → P k ≡ Q k) → lowest_where P n ≡ lowest_where Q n
unfolding lowest_where
lowest_same P Q zero h = refl
lowest_same P Q (suc n) h = rw (lowest_same P Q n (λ k l. h k (omega arith)), h n (omega arith))

-- a search over a list that answers the first such position, or none
pub lowest_in_list : {X : Type 0} (t : X → Bool) (xs : List X) (d : X) (r : Option ℕ) → MatchOption r (AllWithin (λ x. t x ≡ false) xs 0 (length xs)) (λ i. (i < length xs) × HoldsAt (λ x. t x ≡ true) xs i × AllWithin (λ x. t x ≡ false) xs 0 i) → r ≡ lowest_where (λ i. t (get_or xs i d)) (length xs)
lowest_in_list t xs d None h = lowest_from (λ i. t (get_or xs i d)) (length xs) None (λ k l. h k d (omega arith) l)
lowest_in_list t xs d (Some i) h =
    lowest_from (λ i. t (get_or xs i d)) (length xs) (Some i) (record { within = h.0; here = h.1 d; before = λ k l. h.2 k d (omega arith) l })
