-- What the tables of a book mean. Names no book, so that the book's own invariant may cite it.
use Rattle.std.specs.Prelude.{ℕ, ◌+◌, ◌*◌, Bool, false, cond, ◌&&◌, ◌||◌, List, [], ◌∷◌, length, ◌==◌, nat_le, nat_lt}
use Rattle.network.specs.declared.line.Line.{Line}
use Rattle.network.specs.declared.line.LineState.{LineState}
use Rattle.network.specs.declared.line.LineState.TheVariants.{Free, Held}
use Rattle.network.specs.Lines.{is_free, line_at}
use Rattle.network.specs.Groups.{tally}
use Rattle.book.specs.declared.standing.Standing.{Standing}

-- the booking of number n has the line
abbrev pub held_by : ℕ → LineState → Bool
held_by n Free = false
held_by n (Held m) = m == n

-- how many lines are free, and how many the number n has
abbrev pub free_count : List Line → ℕ
free_count ls = tally (λ p. is_free (line_at ls p).state) (length ls)

abbrev pub owned : List Line → ℕ → ℕ
owned ls n = tally (λ p. held_by n (line_at ls p).state) (length ls)

-- how many lines the routes have, all together
unfoldable pub lines_on : List (List ℕ) → ℕ
lines_on [] = 0
lines_on (r ∷ rs) = length r + lines_on rs

-- how many numbers are shown, and how many lines are held, by all that stand
unfoldable pub total_shown : List Standing → ℕ
total_shown [] = 0
total_shown (s ∷ ss) = s.length + total_shown ss

unfoldable pub total_held : List Standing → ℕ
total_held [] = 0
total_held (s ∷ ss) = s.held + total_held ss

-- whether a booking of number j stands; where its numbers begin; how many they are; the others
unfoldable pub stands : ℕ → List Standing → Bool
stands j [] = false
stands j (s ∷ ss) = s.number == j || stands j ss

unfoldable pub offset_of : ℕ → List Standing → ℕ
offset_of j [] = 0
offset_of j (s ∷ ss) = cond (s.number == j) 0 (s.length + offset_of j ss)

unfoldable pub length_of : ℕ → List Standing → ℕ
length_of j [] = 0
length_of j (s ∷ ss) = cond (s.number == j) s.length (length_of j ss)

unfoldable pub without : ℕ → List Standing → List Standing
without j [] = []
without j (s ∷ ss) = cond (s.number == j) ss (s ∷ without j ss)

-- each number is above those before it and none is above the count; each has as many lines as it says, one at least,
-- and shows at most two numbers a line
unfoldable pub sound : List Line → ℕ → ℕ → List Standing → Bool
sound ls low count [] = nat_le low count
sound ls low count (s ∷ ss) =
    (nat_lt low s.number && owned ls s.number == s.held) && ((nat_lt 0 s.held && nat_le s.length (2 * s.held)) && sound ls s.number count ss)
