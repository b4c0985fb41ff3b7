-- Accounts of a set of places: what they send and get, and what is left when the surplus has settled.
use Rattle.std.proofs.Common.{◌≡◌, ℕ, zero, suc, ◌+◌, ◌<◌, ◌≤◌, Bool, true, false, cond, eqb, ltb, List, length, sym, refl, ap, ◌∙◌, inl, inr, arith}
use Rattle.std.proofs.lemmas.Bool.{cases_eq, eq-eqb, ne_eqb, lt-ltb, cond-true, cond-false}
use Rattle.std.proofs.lemmas.Bool.Decides.{nat_tests}
use Rattle.network.specs.declared.line.Line.{Line}
use Rattle.network.specs.declared.engine.SiteWork.{SiteWork}
use Rattle.network.specs.Lines.{line_at, Joins, AllJoin}
use Rattle.network.specs.Flow.{mark_at, leaves, arrives, outs, ins, Balanced}
use Rattle.network.proofs.Sums.{sum_marked_plus, sum_marked_zero, below, outs_step, ins_step, outs_none, ins_none}
use Rattle.engines.specs.Heights.{surplus_at, Account, Settled}

-- the sum of x over the places of P below n
abbrev pub total : (ℕ → Bool) → (ℕ → ℕ) → ℕ → ℕ
total P x zero = 0
total P x (suc n) = total P x n + cond (P n) (x n) 0

pub total_zero : (P : ℕ → Bool) (n : ℕ) → total P (λ _. 0) n ≡ 0
total_zero P zero = refl
total_zero P (suc n) = let z : ◌≡◌ {A = ℕ} (cond (P n) 0 0) 0 = grind (arith, nat_tests) in omega (arith, total_zero P n)

pub total_ge : (P : ℕ → Bool) (x : ℕ → ℕ) (n p : ℕ) → p < n → P p ≡ true → x p ≤ total P x n
total_ge P x zero p lt h = absurd (omega arith)
total_ge P x (suc n) p lt h =
    elim (cases_eq p n) [
      | inl eq ↦ let here : cond (P n) (x n) 0 ≡ x n = cond-true (P n) (x n) 0 (ap P (sym eq) ∙ h) in omega (arith, ap x eq)
      | inr ne ↦ omega (arith, total_ge P x n p (omega arith) h)
    ]

-- a sum over all places, where only two of them have anything
total_two : (x : ℕ → ℕ) (a b n : ℕ) → (a ≡ b → ⊥) → ((p : ℕ) → (p ≡ a → ⊥) → (p ≡ b → ⊥) → x p ≡ 0) →
    total (λ _. true) x n ≡ cond (ltb a n) (x a) 0 + cond (ltb b n) (x b) 0
total_two x a b zero apart others = grind (arith, nat_tests)
total_two x a b (suc n) apart others =
    let before = total_two x a b n apart others in
    elim (cases_eq n a) [
      | inl eq ↦ let s = ap x eq in grind (arith, nat_tests)
      | inr ne ↦ elim (cases_eq n b) [
        | inl eq ↦ let s = ap x eq in grind (arith, nat_tests)
        | inr ne2 ↦ let s = others n ne ne2 in grind (arith, nat_tests)
      ]
    ]

-- the accounts of the places of P, added up
pub account_cut : (P : ℕ → Bool) (x y : ℕ → ℕ) (ls : List Line) (ms : List ℕ) (n : ℕ) →
    ((p : ℕ) → P p ≡ true → outs (eqb p) ls ms + x p ≡ ins (eqb p) ls ms + y p) →
    outs (below P n) ls ms + total P x n ≡ ins (below P n) ls ms + total P y n
account_cut P x y ls ms zero each = omega (arith, outs_none P ls ms, ins_none P ls ms)
account_cut P x y ls ms (suc n) each =
    omega (
      arith,
      outs_step P n ls ms,
      ins_step P n ls ms,
      account_cut P x y ls ms n each,
      under (P n) (outs (eqb n) ls ms) (x n) (ins (eqb n) ls ms) (y n) (each n),
    )
  where
    under : (t : Bool) (w x y z : ℕ) → (t ≡ true → w + x ≡ y + z) → cond t w 0 + cond t x 0 ≡ cond t y 0 + cond t z 0
    under true w x y z e = e refl
    under false w x y z e = refl

whole_line : (n : ℕ) (l : Line) (m : ℕ) → Joins n l → leaves (below (λ _. true) n) l m ≡ arrives (below (λ _. true) n) l m + 0
whole_line n l m j = grind (arith, nat_tests)

-- all places together send what they get
whole_cut : (n : ℕ) (ls : List Line) (ms : List ℕ) → AllJoin n ls → outs (below (λ _. true) n) ls ms ≡ ins (below (λ _. true) n) ls ms
unfolding outs ins
whole_cut n ls ms joins =
    let split = sum_marked_plus (leaves (below (λ _. true) n)) (arrives (below (λ _. true) n)) (λ _ _. 0) ls ms
    (λ k lt _. whole_line n (line_at ls k) (mark_at ms k) (joins k lt)) in
    let none = sum_marked_zero (λ _ _. 0) ls ms (λ k _ _. refl) in
    omega arith

-- where only a and b have a surplus, b's is what goes from a to b
module _ (ls : List Line) (ms : List ℕ) (ws : List SiteWork) (a b : ℕ) (joins : AllJoin (length ws) ls) (account : Account ls ms ws a)
    (a_in : a < length ws) (b_in : b < length ws) (apart : a ≡ b → ⊥) (settled : Settled ws a b) where
  given : ℕ → ℕ
  given p = cond (eqb p a) (length ls) 0

  -- the units that a was given are at a or at b
  both : surplus_at ws a + surplus_at ws b ≡ length ls
  unfolding given
  both =
      let n = length ws in
      let sums : outs (below (λ _. true) n) ls ms + total (λ _. true) (surplus_at ws) n ≡ ins (below (λ _. true) n) ls ms + total (λ _. true) given n =
      account_cut (λ _. true) (surplus_at ws) given ls ms n (λ p _. sym (account p)) in
      let even = whole_cut n ls ms joins in
      let held : total (λ _. true) (surplus_at ws) n ≡ cond (ltb a n) (surplus_at ws a) 0 + cond (ltb b n) (surplus_at ws b) 0 =
      total_two (surplus_at ws) a b n apart settled in
      let lent : total (λ _. true) given n ≡ cond (ltb a n) (given a) 0 + cond (ltb b n) (given b) 0 =
      total_two given a b n apart (λ p na nb. cond-false (eqb p a) (length ls) 0 (ne_eqb p a na)) in
      let l1 : cond (ltb a n) (surplus_at ws a) 0 ≡ surplus_at ws a = cond-true (ltb a n) (surplus_at ws a) 0 (lt-ltb a n a_in) in
      let l2 : cond (ltb b n) (surplus_at ws b) 0 ≡ surplus_at ws b = cond-true (ltb b n) (surplus_at ws b) 0 (lt-ltb b n b_in) in
      let r1 : cond (ltb a n) (given a) 0 ≡ length ls = cond-true (ltb a n) (given a) 0 (lt-ltb a n a_in) ∙ cond-true (eqb a a) (length ls) 0 (eq-eqb a a refl) in
      let r2 : cond (ltb b n) (given b) 0 ≡ 0 =
      cond-true (ltb b n) (given b) 0 (lt-ltb b n b_in) ∙ cond-false (eqb b a) (length ls) 0 (ne_eqb b a (λ e. apart (sym e))) in
      omega arith

  pub drained : Balanced ls ms a b (surplus_at ws b)
  drained p =
      let acc = account p in
      let sum = both in
      elim (cases_eq p a) [
        | inl eq ↦ let ya = eq-eqb p a eq in let nb = ne_eqb p b (λ e. apart (sym eq ∙ e)) in let s = ap (surplus_at ws) eq in grind arith
        | inr ne ↦ let na = ne_eqb p a ne in elim (cases_eq p b) [
          | inl eq ↦ let yb = eq-eqb p b eq in let s = ap (surplus_at ws) eq in grind arith
          | inr ne2 ↦ let nb = ne_eqb p b ne2 in let s = settled p ne ne2 in grind arith
        ]
      ]
