-- A side is a set of places, written as a number: the place i is in it where the binary digit i is 1.
use Rattle.std.specs.Prelude.{ℕ, zero, suc, ◌+◌, ◌/◌, ◌%◌, ◌^◌, Bool, true, false, cond, not, ◌==◌}

-- whether the place i is in the side s
abbrev pub member : ℕ → ℕ → Bool
member s i = s / 2 ^ i % 2 == 1

-- exactly one of the two holds
abbrev pub differ : Bool → Bool → Bool
differ true y = not y
differ false y = y

-- how many of the places below n are in the side s
unfoldable pub size_below : ℕ → ℕ → ℕ
size_below zero s = 0
size_below (suc n) s = cond (member s n) 1 0 + size_below n s
