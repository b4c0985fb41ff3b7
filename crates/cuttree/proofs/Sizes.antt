-- How many places pending pairs have.
use Rattle.std.proofs.Common.{◌≡◌, ℕ, zero, suc, ◌+◌, ◌-◌, ◌^◌, ◌<◌, ◌≤◌, Bool, true, false, cond, not, ◌&&◌, sym, refl, ap, ◌∙◌, inl, inr, arith}
use Rattle.std.proofs.lemmas.Bool.{cases_Bool, cases_eq, lt-ltb}
use Rattle.network.specs.Sides.{member, size_below}
use Rattle.network.proofs.Members.{member_ones}

abbrev one : Bool → ℕ
one b = cond b 1 0

one_parts : (x y : Bool) → one (x && y) + one (x && not y) ≡ one x
one_parts true true = refl
one_parts true false = refl
one_parts false true = refl
one_parts false false = refl

-- the two parts of a set along a side have its places between them
pub size_parts : (n g side near far : ℕ) → ((x : ℕ) → member near x ≡ (member g x && member side x)) → ((x : ℕ) → member far x ≡ (member g x && not (member side x))) →
    size_below n near + size_below n far ≡ size_below n g
unfolding size_below
size_parts zero g side near far hn hf = refl
size_parts (suc n) g side near far hn hf =
    let a : one (member near n) ≡ one (member g n && member side n) = ap one (hn n) in
    let b : one (member far n) ≡ one (member g n && not (member side n)) = ap one (hf n) in
    omega (arith, one_parts (member g n) (member side n), size_parts n g side near far hn hf)

pub size_some : (n g x : ℕ) → x < n → member g x ≡ true → 0 < size_below n g
unfolding size_below
size_some zero g x l h = absurd (let z : ⊥ = omega arith in z)
size_some (suc n) g x l h = elim (cases_eq x n) [
  | inl e ↦ (let a : one (member g n) ≡ 1 = ap one (ap (member g) (sym e) ∙ h) in omega arith)
  | inr ne ↦ omega (arith, size_some n g x (omega arith) h)
]

size_none : (n g : ℕ) → ((x : ℕ) → x < n → member g x ≡ false) → size_below n g ≡ 0
unfolding size_below
size_none zero g h = refl
size_none (suc n) g h =
    let a : one (member g n) ≡ 0 = ap one (h n (omega arith)) in omega (arith, size_none n g (λ x l. h x (omega arith)))

-- a set with one place
pub size_one : (n g s : ℕ) → s < n → member g s ≡ true → ((x : ℕ) → member g x ≡ true → x ≡ s) → size_below n g ≡ 1
unfolding size_below
size_one zero g s l h only = absurd (let z : ⊥ = omega arith in z)
size_one (suc n) g s l h only = elim (cases_eq s n) [
  | inl e ↦ (let a : one (member g n) ≡ 1 = ap one (ap (member g) (sym e) ∙ h) in
      omega (arith, size_none n g (λ x lx. elim (cases_Bool (member g x)) [ inl p ↦ absurd (let q = only x p in let z : ⊥ = omega arith in z) | inr p ↦ p ])))
  | inr ne ↦ (let f : member g n ≡ false = elim (cases_Bool (member g n)) [ inl p ↦ absurd (ne (sym (only n p))) | inr p ↦ p ] in
      let a : one (member g n) ≡ 0 = ap one f in
      omega (arith, size_one n g s (omega arith) h only))
]

size_all : (m n : ℕ) → m ≤ n → size_below m (2 ^ n - 1) ≡ m
unfolding size_below
size_all zero n l = refl
size_all (suc m) n l =
    let a : one (member (2 ^ n - 1) m) ≡ 1 = ap one (member_ones n m ∙ lt-ltb m n (omega arith)) in
    omega (arith, size_all m n (omega arith))

-- all places below n
pub size_whole : (n : ℕ) → size_below n (2 ^ n - 1) ≡ n
size_whole n = size_all n n (omega arith)
