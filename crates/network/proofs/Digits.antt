-- The binary digits of a side: how many are set, which is the lowest, and when two sides are one.
use Rattle.std.proofs.Common.{◌≡◌, ℕ, zero, suc, ◌+◌, ◌-◌, ◌/◌, ◌%◌, ◌^◌, ◌<◌, Bool, true, false, cond, not, ◌&&◌, eqb, ltb, sym, refl, ap, ◌∙◌, subst, inl, inr, mod-eq_of_lt, arith}
use lib.Bits.{bit_and, bit_xor, and_comm, and_mask, xor_add_and}
use lib.Count.{ones, ones_step, count_trailing_zeros, under}
use Rattle.std.proofs.lemmas.Bool.{cases_lt, lt-ltb, le-ltb}
use Rattle.std.proofs.lemmas.Bool.Decides.{nat_tests}
use Rattle.network.specs.Sides.{member, differ, size_below}
use Rattle.network.proofs.Members.{member_zero, member_suc, member_and, member_xor, member_one, member_ones, member_past}

low_digit : (s : ℕ) → cond (eqb (s % 2) 1) 1 0 ≡ s % 2
low_digit s = grind (arith, nat_tests)

-- the lowest place, and the others a place lower
size_step : (n s : ℕ) → size_below (suc n) s ≡ s % 2 + size_below n (s / 2)
unfolding size_below
size_step zero s = rw (member_zero s) (ap (λ (x : ℕ). x + 0) (low_digit s))
size_step (suc n) s = rw (member_suc s n) (omega (arith, size_step n s))

-- as many places as digits that are set
pub size_ones : (n s : ℕ) → s < 2 ^ n → ones s ≡ size_below n s
unfolding size_below ones
size_ones zero s h = let e : s ≡ 0 = omega arith in subst (λ (x : ℕ). ones x ≡ 0) (sym e) refl
size_ones (suc n) s h =
    ones_step s ∙ ap (λ (x : ℕ). s % 2 + x) (size_ones n (s / 2) (omega arith)) ∙ sym (size_step n s)

-- t is the lowest place of s
abbrev pub LowestIn : ℕ → ℕ → Type 0
LowestIn s t = (member s t ≡ true) × ((i : ℕ) → i < t → member s i ≡ false)

lowest_up : (s t : ℕ) → s % 2 ≡ 0 → LowestIn (s / 2) t → LowestIn s (suc t)
lowest_up s t e l = (member_suc s t ∙ l.0, below)
  where
    below : (i : ℕ) → i < suc t → member s i ≡ false
    below zero h = member_zero s ∙ ap (λ (x : ℕ). eqb x 1) e
    below (suc i) h = member_suc s i ∙ l.1 i (omega arith)

lowest_at : (s d t : ℕ) → s % 2 ≡ d → (s % 2 ≡ 0 → LowestIn (s / 2) t) → LowestIn s (under d t)
lowest_at s zero t e l = lowest_up s t e (l e)
lowest_at s (suc d) t e l =
    let one : s % 2 ≡ 1 = omega arith in (member_zero s ∙ ap (λ (x : ℕ). eqb x 1) one, λ i h. absurd (omega arith))

-- the lowest place stands above the zeros below it
pub lowest_trailing : (n s : ℕ) → 0 < s → s < 2 ^ n → LowestIn s (count_trailing_zeros n s)
unfolding count_trailing_zeros
lowest_trailing zero s p h = absurd (omega arith)
lowest_trailing (suc n) s p h =
    lowest_at s (s % 2) (count_trailing_zeros n (s / 2)) refl (λ e. lowest_trailing n (s / 2) (omega arith) (omega arith))

-- the side of one place
pub member_alone : (j i : ℕ) → j < 64 → member (2 ^ j) i ≡ (eqb i j && ltb i 64)
member_alone j i h =
    member_one j i ∙ within
  where
    within : eqb i j ≡ (eqb i j && ltb i 64)
    within = grind (arith, nat_tests)

-- the side of all places below n
pub ones_places : (n r : ℕ) → r ≡ 2 ^ n - 1 → (i : ℕ) → member r i ≡ ltb i n
ones_places n r e i = ap (λ x. member x i) e ∙ member_ones n i

-- the places below n that a side lacks
pub member_not : (n s i : ℕ) → s < 2 ^ n → member (2 ^ n - 1 - s) i ≡ (ltb i n && not (member s i))
member_not n s i h =
    let a : bit_and (2 ^ n - 1) s ≡ s = and_comm (2 ^ n - 1) s ∙ and_mask s n ∙ mod-eq_of_lt h in
    let e : 2 ^ n - 1 - s ≡ bit_xor (2 ^ n - 1) s = omega (arith, xor_add_and (2 ^ n - 1) s) in
    ap (λ x. member x i) e ∙ member_xor (2 ^ n - 1) s i ∙ ap (λ t. differ t (member s i)) (member_ones n i) ∙ lacked
  where
    lacked : differ (ltb i n) (member s i) ≡ (ltb i n && not (member s i))
    lacked = elim (cases_lt i n) [ inl l ↦ rw (lt-ltb i n l) | inr l ↦ rw (le-ltb i n l) (member_past s n i h l) ]

-- the places of a that b lacks, of the 64
pub member_without : (a b i : ℕ) → a < 2 ^ 64 → b < 2 ^ 64 → member (bit_and a (2 ^ 64 - 1 - b)) i ≡ (member a i && not (member b i))
member_without a b i h g =
    member_and a (2 ^ 64 - 1 - b) i ∙ ap (λ t. member a i && t) (member_not 64 b i g) ∙ within
  where
    within : (member a i && (ltb i 64 && not (member b i))) ≡ (member a i && not (member b i))
    within = elim (cases_lt i 64) [ inl l ↦ rw (lt-ltb i 64 l) | inr l ↦ rw (member_past a 64 i h l) ]

-- a side has no place from 64 on, so that none is taken out there
pub without_alone : (s j i : ℕ) → s < 2 ^ 64 → (member s i && not (eqb i j && ltb i 64)) ≡ (member s i && not (eqb i j))
without_alone s j i h = elim (cases_lt i 64) [ inl l ↦ rw (lt-ltb i 64 l, always (eqb i j)) | inr l ↦ rw (member_past s 64 i h l) ]
  where
    always : (t : Bool) → (t && true) ≡ t
    always true = refl
    always false = refl
