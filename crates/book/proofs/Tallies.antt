-- Counting the numbers below a bound that pass a test.
use Rattle.std.proofs.Common.{◌≡◌, ℕ, zero, suc, ◌+◌, ◌<◌, ◌≤◌, Bool, true, false, cond, eqb, List, [], ◌∷◌, length, sym, refl, ap, inl, inr, zero-add, arith}
use Rattle.std.proofs.lemmas.Bool.{cases_eq, eq-eqb, ne_eqb}
use Rattle.network.specs.Groups.{tally}
use Rattle.network.specs.Lists.{among, distinct}
use Rattle.network.proofs.Lists.{among_here, among_later, among_nil, distinct_parts}

abbrev pub one : Bool → ℕ
one b = cond b 1 0

pub one_le : (b : Bool) → one b ≤ 1
one_le true = omega arith
one_le false = omega arith

pub tally_none : (P : ℕ → Bool) → tally P 0 ≡ 0
unfolding tally
tally_none P = refl

pub tally_more : (P : ℕ → Bool) (n : ℕ) → tally P (suc n) ≡ one (P n) + tally P n
unfolding tally
tally_more P n = refl

pub tally_le : (P : ℕ → Bool) (n : ℕ) → tally P n ≤ n
unfolding tally
tally_le P zero = omega arith
tally_le P (suc n) = omega (arith, tally_le P n, one_le (P n))

-- the same numbers pass
pub tally_same : (P Q : ℕ → Bool) (n : ℕ) → ((p : ℕ) → p < n → P p ≡ Q p) → tally P n ≡ tally Q n
unfolding tally
tally_same P Q zero h = refl
tally_same P Q (suc n) h = let e = tally_same P Q n (λ p l. h p (omega arith)) in omega (arith, e, ap one (h n (omega arith)))

-- each number that passes P passes one of Q and R, and the other way round
pub tally_parts : (P Q R : ℕ → Bool) (n : ℕ) → ((p : ℕ) → p < n → one (P p) ≡ one (Q p) + one (R p)) → tally P n ≡ tally Q n + tally R n
unfolding tally
tally_parts P Q R zero h = refl
tally_parts P Q R (suc n) h = let e = tally_parts P Q R n (λ p l. h p (omega arith)) in omega (arith, e, h n (omega arith))

-- none passes
pub tally_zero : (P : ℕ → Bool) (n : ℕ) → ((p : ℕ) → p < n → P p ≡ false) → tally P n ≡ 0
unfolding tally
tally_zero P zero h = refl
tally_zero P (suc n) h = let e = tally_zero P n (λ p l. h p (omega arith)) in omega (arith, e, ap one (h n (omega arith)))

-- and back
pub zero_tally : (P : ℕ → Bool) (n : ℕ) → tally P n ≡ 0 → (p : ℕ) → p < n → P p ≡ false
unfolding tally
zero_tally P zero e p l = absurd (omega arith)
zero_tally P (suc n) e p l =
    elim (cases_eq p n) [
      | inl q ↦ rw q (no_one (P n) (omega arith))
      | inr ne ↦ zero_tally P n (omega arith) p (omega arith)
    ]
  where
    no_one : (b : Bool) → one b ≡ 0 → b ≡ false
    no_one true h = absurd (omega arith)
    no_one false h = refl

-- exactly one number is x
pub tally_one : (n x : ℕ) → x < n → tally (eqb x) n ≡ 1
unfolding tally
tally_one zero x l = absurd (omega arith)
tally_one (suc n) x l =
    elim (cases_eq x n) [
      | inl q ↦
          let z = tally_zero (eqb x) n (λ p h. ne_eqb x p (omega arith)) in omega (arith, z, ap one (eq-eqb x n q))
      | inr ne ↦ let e = tally_one n x (omega arith) in omega (arith, e, ap one (ne_eqb x n ne))
    ]

-- all pass
pub tally_all : (P : ℕ → Bool) (n : ℕ) → ((p : ℕ) → p < n → P p ≡ true) → tally P n ≡ n
unfolding tally
tally_all P zero h = refl
tally_all P (suc n) h = let e = tally_all P n (λ p l. h p (omega arith)) in omega (arith, e, ap one (h n (omega arith)))

-- a list with nothing twice has as many numbers as it is long
pub tally_among : (n : ℕ) (xs : List ℕ) → distinct xs ≡ true → ((p : ℕ) → among xs p ≡ true → p < n) → tally (among xs) n ≡ length xs
unfolding among
tally_among n [] h f = tally_zero (among []) n (λ p l. among_nil p)
tally_among n (x ∷ xs) h f =
    let d = distinct_parts x xs h in
    let r = tally_among n xs d.1 (λ p q. f p (among_later x p xs q)) in
    let o = tally_one n x (f x (among_here x xs)) in
    let t = tally_parts (among (x ∷ xs)) (eqb x) (among xs) n (λ p l. either x xs p d.0) in omega (arith, r, o, t)
  where
    either : (x : ℕ) (xs : List ℕ) (p : ℕ) → among xs x ≡ false → one (among (x ∷ xs) p) ≡ one (eqb x p) + one (among xs p)
    either x xs p nx =
        elim (cases_eq x p) [
          | inl q ↦ let m : among xs p ≡ false = rw (sym q) nx in rw (eq-eqb x p q, m) refl
          | inr ne ↦ rw (ne_eqb x p ne) (sym (zero-add (one (among xs p))))
        ]
