-- What the passes of a desk are. Names no desk, so that the desk's own invariant may cite it.
use Rattle.std.specs.Prelude.{◌≡◌, ℕ, ◌<◌, Bool, List, map, length, nat_eq, slice_index_or}
use Rattle.network.specs.Lists.{every}
use Rattle.book.specs.declared.standing.Standing.{Standing}
use Rattle.book.specs.declared.ticket.Ticket.{Ticket}
use Rattle.book.specs.Tables.{stands}
use Rattle.desk.specs.declared.pass.Pass.{Pass}

-- a ticket, and the first site of its booking
abbrev pub pass_with : Ticket → ℕ → Pass
pass_with t x = record { ticket = t; first = x }

-- the booking numbers of the passes
abbrev pub number_of : Pass → ℕ
number_of p = p.ticket.number

abbrev pub numbers_of : List Pass → List ℕ
numbers_of ps = map number_of ps

-- all tickets have the mark m
abbrev pub carry : ℕ → List Pass → Bool
carry m ps = every (λ p. nat_eq p.ticket.mark m) ps

-- bookings of all these numbers stand in the rows
abbrev pub all_stand : List Standing → List ℕ → Bool
all_stand rows js = every (λ j. stands j rows) js

-- p is a pass of the list, and its booking has the number j
pub record Held (ps : List Pass) (j : ℕ) (p : Pass) : Type 0 where
  pub place : ℕ
  pub within : place < length ps
  pub here : p ≡ slice_index_or ps place p
  pub number : number_of p ≡ j
