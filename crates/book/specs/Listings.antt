-- What the work on a book's tables means: lists of routes as counts and positions, read from the front, and rows found.
use Rattle.std.specs.Prelude.{◌≡◌, ℕ, zero, suc, ◌+◌, ◌<◌, ◌≤◌, ◌≢◌, true, List, [], ◌∷◌, length, Option, slice_set}
use Rattle.std.specs.List.{remove, slice_get}
use Rattle.network.specs.declared.line.Line.{Line}
use Rattle.network.specs.declared.line.LineState.TheVariants.{Held}
use Rattle.network.specs.Lines.{line_at}
use Rattle.network.specs.Routes.{number_at}
use Rattle.book.specs.declared.listing.Entry.{Entry}
use Rattle.book.specs.declared.listing.Entry.TheVariants.{Count, Position}
use Rattle.book.specs.declared.standing.Standing.{Standing}
use Rattle.book.specs.Ledger.{with_state}
use Rattle.book.specs.Tables.{stands, offset_of, length_of, without, total_shown}

-- each call at a position of the list gives what stands there
abbrev pub Gives : {X : Type 0} → (ℕ → Option X → Type 0) → List X → Type 0
Gives {X} post xs = (i : ℕ) (r : Option X) → i < length xs → post i r → r ≡ slice_get xs i

-- a number x of such a list is the count of a route where no line of the present one is to come, else a position
abbrev pub Reads : ℕ → ℕ → ℕ → Entry → Type 0
Reads left x left' (Count c) = (left ≡ 0) × (left' ≡ x) × (c ≡ x)
Reads left x left' (Position p) = (left ≢ 0) × (left' + 1 ≡ left) × (p ≡ x)

-- the positions in such a list; `left` lines of the present route are still to come
unfoldable pub positions_told : ℕ → List ℕ → List ℕ
positions_told left [] = []
positions_told zero (count ∷ xs) = positions_told count xs
positions_told (suc left) (p ∷ xs) = p ∷ positions_told left xs

-- the list with each position turned into the number of its line
unfoldable pub numbers_told : List Line → ℕ → List ℕ → List ℕ
numbers_told ls left [] = []
numbers_told ls zero (count ∷ xs) = count ∷ numbers_told ls count xs
numbers_told ls (suc left) (p ∷ xs) = number_at ls p ∷ numbers_told ls left xs

-- the lines, those at these positions held by the number n
unfoldable pub given_to : ℕ → List ℕ → List Line → List Line
given_to n [] ls = ls
given_to n (p ∷ ps) ls = given_to n ps (slice_set ls p (with_state (Held n) (line_at ls p)))

-- the row of number j, with the place and the count of its numbers
pub record Found (ss : List Standing) (j row from size : ℕ) : Type 0 where
  pub here : stands j ss ≡ true
  pub inside : row < length ss
  pub begins : from ≡ offset_of j ss
  pub many : size ≡ length_of j ss
  pub ends : from + size ≤ total_shown ss
  pub rest : remove ss row ≡ without j ss
