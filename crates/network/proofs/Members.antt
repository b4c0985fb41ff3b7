-- Membership in a side, under the operations on bits.
use Rattle.std.proofs.Common.{◌≡◌, ℕ, zero, suc, ◌+◌, ◌-◌, ◌*◌, ◌/◌, ◌%◌, ◌^◌, ◌<◌, ◌≤◌, min, max, Bool, true, false, cond, ◌&&◌, ◌||◌, eqb, ltb, sym, refl, ap, ◌∙◌, div-one, one-add, arith, pow_pos, pow_mono, shr-shr}
use native.Mathlib.Nat.{div-eq_of_lt, zero-div}
use lib.Dec.{leb-suc-suc, eqb-zero-suc, eqb-suc-zero, eqb-suc-suc}
use lib.Bits.{bit_and, bit_or, bit_xor, and_shr, or_shr, xor_shr, and_step, or_step, xor_add_and}
use Rattle.std.proofs.lemmas.Bool.Decides.{nat_tests}
use Rattle.std.proofs.lemmas.Bool.{lt-ltb, le-ltb}
use Rattle.network.specs.Sides.{member, differ}

pub member_zero : (s : ℕ) → member s 0 ≡ eqb (s % 2) 1
member_zero s = rw div-one

pub member_suc : (s i : ℕ) → member s (suc i) ≡ member (s / 2) i
member_suc s i = ap (λ x. eqb (x % 2) 1) (ap (λ k. s / 2 ^ k) (sym (one-add i)) ∙ sym (shr-shr s 1 i))

low_and : (a b : ℕ) → eqb (bit_and a b % 2) 1 ≡ (eqb (a % 2) 1 && eqb (b % 2) 1)
low_and a b = let e : bit_and a b % 2 ≡ min (a % 2) (b % 2) = omega (arith, and_step a b) in
    rw e (grind (arith, nat_tests))

low_or : (a b : ℕ) → eqb (bit_or a b % 2) 1 ≡ (eqb (a % 2) 1 || eqb (b % 2) 1)
low_or a b = let e : bit_or a b % 2 ≡ max (a % 2) (b % 2) = omega (arith, or_step a b) in
    rw e (grind (arith, nat_tests))

low_xor : (a b : ℕ) → eqb (bit_xor a b % 2) 1 ≡ differ (eqb (a % 2) 1) (eqb (b % 2) 1)
low_xor a b = let e : bit_xor a b % 2 ≡ (a % 2 + b % 2) % 2 = omega (arith, xor_add_and a b) in
    rw e (grind (arith, nat_tests))

pub member_xor : (s t i : ℕ) → member (bit_xor s t) i ≡ differ (member s i) (member t i)
member_xor s t i = rw xor_shr (low_xor (s / 2 ^ i) (t / 2 ^ i))

pub member_and : (s t i : ℕ) → member (bit_and s t) i ≡ (member s i && member t i)
member_and s t i = rw and_shr (low_and (s / 2 ^ i) (t / 2 ^ i))

pub member_or : (s t i : ℕ) → member (bit_or s t) i ≡ (member s i || member t i)
member_or s t i = rw or_shr (low_or (s / 2 ^ i) (t / 2 ^ i))

-- the side of the places below n where m holds
unfoldable pub side_of : ℕ → (ℕ → Bool) → ℕ
side_of zero m = 0
side_of (suc n) m = cond (m 0) 1 0 + 2 * side_of n (λ i. m (suc i))

bit_below : (b : Bool) → cond b 1 0 < 2
bit_below true = omega arith
bit_below false = omega arith

bit_eqb : (b : Bool) → eqb (cond b 1 0) 1 ≡ b
bit_eqb true = refl
bit_eqb false = refl

pub side_of_below : (n : ℕ) (m : ℕ → Bool) → side_of n m < 2 ^ n
unfolding side_of
side_of_below zero m = omega arith
side_of_below (suc n) m = omega (arith, side_of_below n (λ i. m (suc i)), bit_below (m 0))

pub member_side_of : (n : ℕ) (m : ℕ → Bool) (i : ℕ) → i < n → member (side_of n m) i ≡ m i
unfolding side_of
member_side_of zero m i h = absurd (let z : ⊥ = omega arith in z)
member_side_of (suc n) m zero h =
    let e : (cond (m 0) 1 0 + 2 * side_of n (λ i. m (suc i))) % 2 ≡ cond (m 0) 1 0 = omega (arith, bit_below (m 0)) in
    member_zero _ ∙ ap (λ x. eqb x 1) e ∙ bit_eqb (m 0)
member_side_of (suc n) m (suc i) h =
    let e : (cond (m 0) 1 0 + 2 * side_of n (λ i. m (suc i))) / 2 ≡ side_of n (λ i. m (suc i)) = omega (arith, bit_below (m 0)) in
    member_suc _ i ∙ ap (λ x. member x i) e ∙ member_side_of n (λ i. m (suc i)) i (omega arith)

pub member_past : (s n i : ℕ) → s < 2 ^ n → n ≤ i → member s i ≡ false
member_past s n i h l =
    let e : s / 2 ^ i ≡ 0 = div-eq_of_lt (omega (arith, pow_mono l)) in rw e

pub member_none : (i : ℕ) → member 0 i ≡ false
member_none i = rw zero-div

-- the side of all places below n
pub member_ones : (n i : ℕ) → member (2 ^ n - 1) i ≡ ltb i n
member_ones zero i = member_none i ∙ sym (le-ltb i 0 (omega arith))
member_ones (suc n) zero =
    let e : (2 ^ suc n - 1) % 2 ≡ 1 = omega (arith, pow_pos n) in
    member_zero _ ∙ ap (λ x. eqb x 1) e ∙ sym (lt-ltb 0 (suc n) (omega arith))
member_ones (suc n) (suc i) =
    let e : (2 ^ suc n - 1) / 2 ≡ 2 ^ n - 1 = omega (arith, pow_pos n) in
    member_suc _ i ∙ ap (λ x. member x i) e ∙ member_ones n i ∙ sym (leb-suc-suc (suc i) n)

-- the side of one place
pub member_one : (j i : ℕ) → member (2 ^ j) i ≡ eqb i j
member_one zero zero = refl
member_one zero (suc i) = member_suc 1 i ∙ member_none i ∙ sym (eqb-suc-zero i)
member_one (suc j) zero =
    let e : 2 ^ suc j % 2 ≡ 0 = omega arith in member_zero _ ∙ ap (λ x. eqb x 1) e ∙ sym (eqb-zero-suc j)
member_one (suc j) (suc i) =
    let e : 2 ^ suc j / 2 ≡ 2 ^ j = omega arith in member_suc _ i ∙ ap (λ x. member x i) e ∙ member_one j i ∙ sym (eqb-suc-suc i j)
