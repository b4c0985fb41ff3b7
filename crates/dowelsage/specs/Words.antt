-- What the words of a line are read as.
use Rattle.std.specs.Prelude.{◌≡◌, ℕ, ◌^◌, ◌<◌, Bool, true, List, length, take, drop, Some, None, Option, ◌==◌, slice_index}
use Rattle.std.specs.Str.Parse.{IsNumeral, digits_value, without_leading_plus}
use Rattle.std.specs.Char.{is_not_whitespace}
use Rattle.std.specs.Str.{NoCharPasses, EmptyOrStartsWithPassing}

-- the word is n in decimal digits, perhaps after a plus sign, and n is below 2 ^ bits
abbrev pub Writes : ℕ → List ℕ → ℕ → Type 0
Writes bits word n = IsNumeral 10 (without_leading_plus word) × (digits_value 10 (without_leading_plus word) ≡ n) × (n < 2 ^ bits)

-- the number that the word writes; none where it writes none
abbrev pub Reads : ℕ → List ℕ → Option ℕ → Type 0
Reads bits word (Some n) = Writes bits word n
Reads bits word None = (n : ℕ) → Writes bits word n → ⊥

-- r says whether a line is white space alone, or has # as its first other character
pub record Silence (line : List ℕ) (r : Bool) : Type 0 where
  pub start : ℕ
  pub rest : List ℕ
  pub white : NoCharPasses is_not_whitespace (take start line)
  pub opens : EmptyOrStartsWithPassing is_not_whitespace (drop start line) rest
  pub alone : length (drop start line) ≡ 0 → r ≡ true
  pub first : 0 < length (drop start line) → r ≡ (slice_index (drop start line) 0 == 35)
