-- Different entries of a list that is made from a function of the index.
use Rattle.std.proofs.Common.{◌≡◌, ℕ, zero, suc, ◌+◌, ◌<◌, ◌≤◌, Bool, true, false, cond, ◌||◌, eqb, ◌≢◌, List, [], ◌∷◌, ◌++◌, map, sym, refl, ap, ◌∙◌, inl, inr, add-one, arith}
use Rattle.std.specs.List.{range_with_len}
use Rattle.std.proofs.lemmas.List.FromFn.{map-range_with_len_more, length-map-range_with_len, get_or-map-range_with_len}
use Rattle.std.proofs.lemmas.Bool.{cases_Bool, cases_eq, eq-eqb, ne_eqb}
use Rattle.network.specs.Lists.{among, different}
use Rattle.network.specs.Groups.{tally}
use Rattle.network.proofs.Lists.{among_append, among_get_or, among_index}

among_last : (xs : List ℕ) (y x : ℕ) → among (xs ++ y ∷ []) x ≡ (among xs x || (eqb y x || false))
unfolding among
among_last xs y x = among_append xs (y ∷ []) x

-- of x and y, in front of a list and behind it, one more is different where they are unequal
exchange : (s t : Bool) (d : ℕ) → cond (s || false) 0 1 + (d + cond t 0 1) ≡ cond s 0 1 + d + cond t 0 1
exchange true t d = omega arith
exchange false t d = omega arith

exchange_equal : (s : Bool) (d : ℕ) → cond (s || true) 0 1 + (d + cond s 0 1) ≡ cond s 0 1 + d + 0
exchange_equal true d = omega arith
exchange_equal false d = omega arith

pub different_last : (xs : List ℕ) (y : ℕ) → different (xs ++ y ∷ []) ≡ different xs + cond (among xs y) 0 1
unfolding among different
different_last [] y = refl
different_last (x ∷ xs) y =
    let e = among_last xs y x in
    let d = different_last xs y in
    rw (e, d) (elim (cases_eq x y) [
      | inl q ↦ rw (q, eq-eqb y y refl) (exchange_equal (among xs y) (different xs))
      | inr q ↦ rw (ne_eqb x y q, ne_eqb y x (λ r. q (sym r))) (exchange (among xs x) (among xs y) (different xs))
    ])

-- the first m + 1 entries
pub map_more : (f : ℕ → ℕ) (m : ℕ) → map f (range_with_len 0 (suc m)) ≡ map f (range_with_len 0 m) ++ f m ∷ []
map_more f m = ap (λ (x : ℕ). map f (range_with_len 0 x)) (sym (add-one m)) ∙ map-range_with_len_more f 0 m m (omega arith)

among_hit : (f : ℕ → ℕ) (m i : ℕ) → i < m → among (map f (range_with_len 0 m)) (f i) ≡ true
among_hit f m i h =
    ap (among (map f (range_with_len 0 m))) (sym (get_or-map-range_with_len f 0 m i i 0 h (omega arith)))
    ∙ among_get_or (map f (range_with_len 0 m)) i 0 (omega (arith, length-map-range_with_len f 0 m))

among_miss : (f : ℕ → ℕ) (m y : ℕ) → ((i : ℕ) → i < m → f i ≢ y) → among (map f (range_with_len 0 m)) y ≡ false
among_miss f m y none =
    elim (cases_Bool (among (map f (range_with_len 0 m)) y)) [
      | inl h ↦ absurd (let w = among_index (map f (range_with_len 0 m)) y 0 h in
          let l : w.0 < m = omega (arith, w.1, length-map-range_with_len f 0 m) in
          none w.0 l (sym (get_or-map-range_with_len f 0 m w.0 w.0 0 l (omega arith)) ∙ w.2))
      | inr h ↦ h
    ]

-- where f x is at most x and f leaves it there, the different entries are the numbers that f leaves
module _ (f : ℕ → ℕ) (n : ℕ) (low : (x : ℕ) → x < n → f x ≤ x) (stays : (x : ℕ) → x < n → f (f x) ≡ f x) where
  new_entry : (m : ℕ) → m < n → ◌≡◌ {A = ℕ} (cond (among (map f (range_with_len 0 m)) (f m)) 0 1) (cond (eqb (f m) m) 1 0)
  new_entry m h =
      elim (cases_eq (f m) m) [
        | inl e ↦ rw (eq-eqb (f m) m e, among_miss f m (f m) (λ i l q. omega (arith, low i (omega arith))))
        | inr e ↦ rw (ne_eqb (f m) m e, sym (ap (among (map f (range_with_len 0 m))) (stays m h)) ∙ among_hit f m (f m) (omega (arith, low m h)))
      ]

  pub tally_different : (m : ℕ) → m ≤ n → tally (λ x. eqb (f x) x) m ≡ different (map f (range_with_len 0 m))
  unfolding tally different
  tally_different zero h = refl
  tally_different (suc m) h =
      let e = ap different (map_more f m) ∙ different_last (map f (range_with_len 0 m)) (f m) in
      omega (arith, e, new_entry m (omega arith), tally_different m (omega arith))
