-- One relation for each call on a desk that changes it: the desk at entry, the arguments, the desk at exit and the result.
use Rattle.std.specs.Prelude.{◌≡◌, ℕ, ◌<◌, Bool, true, false, List, [], ◌∷◌, ◌++◌, length, Some, None, Ok, Err, vec_items, Option, Result, slice_index_or}
use Rattle.std.specs.List.{remove}
use Rattle.network.specs.Lists.{among}
use Rattle.book.specs.declared.fault.Fault.{Fault}
use Rattle.book.specs.declared.ticket.Ticket.{Ticket}
use Rattle.book.specs.Calls.{Booked, Released}
use Rattle.desk.specs.declared.pass.Pass.{Pass}
use Rattle.desk.specs.declared.desk.Desk.{Desk}
use Rattle.desk.specs.Passes.{numbers_of, pass_with}

module _ {E : Type 0} where
  abbrev pub passes_of : Desk E → List Pass
  passes_of d = vec_items d.passes

  -- an accepted booking's ticket is kept, last of all
  pub record Kept (d : Desk E) (x y k : ℕ) (after : Desk E) (n : ℕ) : Type 0 where
    pub ticket : Ticket
    pub booked : Booked d.book x y k after.book (Ok ticket)
    pub number : ticket.number ≡ n
    pub passes : passes_of after ≡ passes_of d ++ pass_with ticket x ∷ []

  abbrev pub Took : Desk E → ℕ → ℕ → ℕ → Desk E → Result ℕ Fault → Type 0
  Took d x y k after (Ok n) = Kept d x y k after n
  Took d x y k after (Err f) = Booked d.book x y k after.book (Err f) × (passes_of after ≡ passes_of d)

  -- the release of the pass at a place was accepted, and the pass is gone
  pub record EndedAt (d : Desk E) (place : ℕ) (after : Desk E) (n : ℕ) : Type 0 where
    pub ticket : Ticket
    pub number : ticket.number ≡ n
    pub here : slice_index_or (numbers_of (passes_of d)) place 0 ≡ n
    pub within : place < length (passes_of d)
    pub released : Released d.book ticket after.book (Ok tt)
    pub passes : passes_of after ≡ remove (passes_of d) place

  -- a booking whose ticket the desk holds is released; else nothing changes
  abbrev pub Ended : Desk E → ℕ → Desk E → Bool → Type 0
  Ended d n after true = (place : ℕ) × EndedAt d place after n
  Ended d n after false = (among (numbers_of (passes_of d)) n ≡ false) × (after ≡ d)

  -- the first pass; none where there is none
  abbrev pub EndedNext : Desk E → Desk E → Option ℕ → Type 0
  EndedNext d after (Some n) = EndedAt d 0 after n
  EndedNext d after None = (passes_of d ≡ []) × (after ≡ d)
