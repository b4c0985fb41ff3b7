-- The level of two places: it is the least crossing, and what it has to do with ties.
use Rattle.std.proofs.Common.{◌≡◌, ℕ, zero, suc, ◌^◌, ◌<◌, ◌≤◌, Bool, true, false, eqb, ◌≢◌, ◌⊎◌, List, length, sym, refl, ap₂, inl, inr, arith}
use Rattle.std.proofs.lemmas.Bool.{eq-eqb, ne_eqb, cases_eq, cases_lt}
use Rattle.network.specs.declared.line.Line.{Line}
use Rattle.network.specs.Lines.{AllJoin}
use Rattle.network.specs.Sides.{member, differ}
use Rattle.network.specs.Cuts.{crossing_by, crossing, lesser, least, level_of}
use Rattle.network.proofs.Members.{side_of, side_of_below, member_side_of}
use Rattle.network.proofs.Crossing.{crossing_le_length, crossing_same, submodular}
use Rattle.network.proofs.Ties.{Tied, SubmodularCount, differ_comm}

-- the count that the level goes by
abbrev pub count_of : List Line → (ℕ → Bool) → ℕ
count_of ls m = crossing_by m ls

pub submodular_count : (ls : List Line) → SubmodularCount (count_of ls)
submodular_count ls m w = submodular m w ls

lesser_le : (b : Bool) (c r : ℕ) → lesser b c r ≤ r
lesser_le true c r = omega arith
lesser_le false c r = omega arith

lesser_here : (b : Bool) (c r : ℕ) → b ≡ true → lesser b c r ≤ c
lesser_here b c r e = rw e (omega arith)

pub least_le : (ls : List Line) (a b bound s : ℕ) → s < bound → differ (member s a) (member s b) ≡ true → least ls a b bound ≤ crossing ls s
unfolding least
least_le ls a b zero s h p = absurd (let z : ⊥ = omega arith in z)
least_le ls a b (suc t) s h p =
    elim (cases_eq s t) [
      | inl e ↦ rw e (lesser_here _ _ _ (rw e at p))
      | inr n ↦ omega (arith, lesser_le (differ (member t a) (member t b)) (crossing ls t) (least ls a b t), least_le ls a b t s (omega arith) p)
    ]

-- the level is at most what any side crosses that parts the two
pub level_le : (n : ℕ) (ls : List Line) (a b s : ℕ) → s < 2 ^ n → differ (member s a) (member s b) ≡ true → level_of n ls a b ≤ crossing ls s
unfolding level_of
level_le n ls a b s h p = least_le ls a b (2 ^ n) s h p

-- a side below the bound that parts the two and that v lines cross
abbrev pub Met : List Line → ℕ → ℕ → ℕ → ℕ → Type 0
Met ls a b bound v = (s : ℕ) × (s < bound) × (differ (member s a) (member s b) ≡ true) × (v ≡ crossing ls s)

lesser_met : (ls : List Line) (a b t r : ℕ) (d : Bool) → differ (member t a) (member t b) ≡ d → (r ≡ length ls) ⊎ Met ls a b t r
    → (lesser d (crossing ls t) r ≡ length ls) ⊎ Met ls a b (suc t) (lesser d (crossing ls t) r)
lesser_met ls a b t r false e (inl h) = inl h
lesser_met ls a b t r false e (inr h) = inr (h.0, omega (arith, h.1), h.2, h.3)
lesser_met ls a b t r true e (inl h) =
    inr (t, omega arith, e, omega (arith, crossing_le_length (member t) ls))
lesser_met ls a b t r true e (inr h) =
    elim (cases_lt (crossing ls t) r) [
      | inl l ↦ inr (t, omega arith, e, omega arith)
      | inr l ↦ inr (h.0, omega (arith, h.1), h.2, omega (arith, h.3))
    ]

-- either no side below the bound parts the two, or one attains the least crossing
pub least_met : (ls : List Line) (a b bound : ℕ) → (least ls a b bound ≡ length ls) ⊎ Met ls a b bound (least ls a b bound)
unfolding least
least_met ls a b zero = inl refl
least_met ls a b (suc t) = lesser_met ls a b t (least ls a b t) (differ (member t a) (member t b)) refl (least_met ls a b t)

-- the side with a alone parts a from b
alone : ℕ → ℕ → Bool
alone a i = eqb i a

alone_parts : (a b : ℕ) → a ≢ b → differ (alone a a) (alone a b) ≡ true
unfolding alone
alone_parts a b ne = rw (eq-eqb a a refl, ne_eqb b a (λ e. ne (sym e)))

-- some side attains the level
pub level_met : (n : ℕ) (ls : List Line) (a b : ℕ) → a < n → b < n → a ≢ b → Met ls a b (2 ^ n) (level_of n ls a b)
unfolding level_of
level_met n ls a b la lb ne = elim (least_met ls a b (2 ^ n)) [ inl e ↦ full e | inr h ↦ h ]
  where
    parts : differ (member (side_of n (alone a)) a) (member (side_of n (alone a)) b) ≡ true
    parts = rw (member_side_of n (alone a) a la, member_side_of n (alone a) b lb) (alone_parts a b ne)

    full : least ls a b (2 ^ n) ≡ length ls → Met ls a b (2 ^ n) (least ls a b (2 ^ n))
    full e = (
      side_of n (alone a),
      side_of_below n (alone a),
      parts,
      omega (arith, e, crossing_le_length (member (side_of n (alone a))) ls, least_le ls a b (2 ^ n) (side_of n (alone a)) (side_of_below n (alone a)) parts),
    )

-- the level in terms of sets of places
pub tied_from_level : (n : ℕ) (ls : List Line) (k a b : ℕ) → AllJoin n ls → a < n → b < n → k ≤ level_of n ls a b → Tied (count_of ls) k a b
unfolding Tied
tied_from_level n ls k a b net la lb h m p =
    let e : crossing ls (side_of n m) ≡ crossing_by m ls = crossing_same n (member (side_of n m)) m ls net (member_side_of n m) in
    let q : differ (member (side_of n m) a) (member (side_of n m) b) ≡ true = rw (member_side_of n m a la, member_side_of n m b lb) p in
    omega (arith, level_le n ls a b (side_of n m) (side_of_below n m) q)

pub level_from_tied : (n : ℕ) (ls : List Line) (k a b : ℕ) → a < n → b < n → a ≢ b → Tied (count_of ls) k a b → k ≤ level_of n ls a b
unfolding Tied
level_from_tied n ls k a b la lb ne h =
    let s = level_met n ls a b la lb ne in omega (arith, s.3, h (member s.0) s.2)

least_comm : (ls : List Line) (a b bound : ℕ) → least ls a b bound ≡ least ls b a bound
unfolding least
least_comm ls a b zero = refl
least_comm ls a b (suc t) = ap₂ (λ d r. lesser d (crossing ls t) r) (differ_comm (member t a) (member t b)) (least_comm ls a b t)

pub level_comm : (n : ℕ) (ls : List Line) (a b : ℕ) → level_of n ls a b ≡ level_of n ls b a
unfolding level_of
level_comm n ls a b = least_comm ls a b (2 ^ n)

least_start : (ls : List Line) (a b bound : ℕ) → least ls a b bound ≤ length ls
unfolding least
least_start ls a b zero = omega arith
least_start ls a b (suc t) = omega (arith, lesser_le (differ (member t a) (member t b)) (crossing ls t) (least ls a b t), least_start ls a b t)

pub level_le_length : (n : ℕ) (ls : List Line) (a b : ℕ) → level_of n ls a b ≤ length ls
unfolding level_of
level_le_length n ls a b = least_start ls a b (2 ^ n)
