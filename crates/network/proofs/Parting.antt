-- Complements of sides within n places, a side that attains the level and holds the first place, and the laws of the
-- level.
use Rattle.std.proofs.Common.{◌≡◌, ℕ, ◌-◌, ◌^◌, ◌<◌, min, not, List, sym, ap, ◌∙◌, inl, inr, arith}
use lib.Bits.{bit_and, bit_or, bit_xor, xor_lt}
use lib.Pow.{ones_lt}
use Rattle.std.proofs.lemmas.Bool.{cases_Bool, lt-ltb}
use Rattle.network.specs.declared.line.Line.{Line}
use Rattle.network.specs.Lines.{AllJoin}
use Rattle.network.specs.Sides.{member, differ}
use Rattle.network.specs.Cuts.{crossing, level_of}
use Rattle.network.specs.Answers.{PartedBy}
use Rattle.network.specs.Laws.{Attained, ByThird, Submodular}
use Rattle.network.proofs.Members.{member_xor, member_ones, member_and, member_or}
use Rattle.network.proofs.Crossing.{crossing_same, crossing_like, crossing_not, submodular, both, either}
use Rattle.network.proofs.Ties.{tied_trans, differ_yes, differ_no}
use Rattle.network.proofs.Levels.{Met, count_of, level_met, tied_from_level, level_from_tied}

-- the places below n that are not in s
abbrev pub others : ℕ → ℕ → ℕ
others n s = bit_xor (2 ^ n - 1) s

pub others_below : (n s : ℕ) → s < 2 ^ n → others n s < 2 ^ n
others_below n s h = xor_lt n (2 ^ n - 1) s (ones_lt n) h

pub member_others : (n s i : ℕ) → i < n → member (others n s) i ≡ not (member s i)
member_others n s i h = member_xor (2 ^ n - 1) s i ∙ ap (λ t. differ t (member s i)) (member_ones n i ∙ lt-ltb i n h)

pub crossing_others : (n : ℕ) (ls : List Line) (s : ℕ) → AllJoin n ls → crossing ls (others n s) ≡ crossing ls s
crossing_others n ls s net =
    crossing_same n (member (others n s)) (λ i. not (member s i)) ls net (member_others n s) ∙ crossing_not (member s) ls

-- some side that holds a and not b attains the level
pub attained : Attained
attained n ls a b net la lb ne = turn (level_met n ls a b la lb ne)
  where
    turn : Met ls a b (2 ^ n) (level_of n ls a b) → (s : ℕ) × PartedBy n ls a b (level_of n ls a b) s
    turn (s, h, d, e) =
        elim (cases_Bool (member s a)) [
          | inl p ↦ (s, record { has_a = p; lacks_b = differ_yes _ _ d p; within = h; crossed = sym e })
          | inr p ↦ (
            others n s,
            record {
              has_a = member_others n s a la ∙ ap not p;
              lacks_b = member_others n s b lb ∙ ap not (differ_no _ _ d p);
              within = others_below n s h;
              crossed = crossing_others n ls s net ∙ sym e;
            },
          )
        ]

-- the level of a and c is at least the smaller of their levels with b
pub by_third : ByThird
by_third n ls a b c net la lb lc ne =
    let k = min (level_of n ls a b) (level_of n ls b c) in
    level_from_tied n ls k a c la lc ne
    (tied_trans (count_of ls) k a b c (tied_from_level n ls k a b net la lb (omega arith)) (tied_from_level n ls k b c net lb lc (omega arith)))

pub submodular_sides : Submodular
submodular_sides ls s t =
    omega (
      arith,
      submodular (member s) (member t) ls,
      crossing_like (member (bit_and s t)) (both (member s) (member t)) ls (member_and s t),
      crossing_like (member (bit_or s t)) (either (member s) (member t)) ls (member_or s t),
    )
