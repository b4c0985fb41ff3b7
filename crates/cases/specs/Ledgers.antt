-- What a caller knows of a book on the worked network between two calls.
use Rattle.std.specs.Prelude.{◌≡◌, ℕ, List}
use Rattle.book.specs.declared.held.Book.{Book}
use Rattle.book.specs.declared.ticket.Ticket.{Ticket}
use Rattle.book.specs.Ledger.{Ledger, started, entered, struck}
use Rattle.book.specs.Runs.{Reached, Lawful}
use Rattle.cases.specs.File.{worked_file}

-- just opened, with the mark 7
abbrev pub at_first : Ledger
at_first = started worked_file 7

-- three routes from 10 to 20 are booked, and these numbers are shown for them
abbrev pub with_three : List ℕ → Ledger
with_three ns = entered at_first 10 20 3 ns

-- and released again
abbrev pub given_back : List ℕ → Ledger
given_back ns = struck (with_three ns) 1

module _ {E : Type 0} where
  -- calls led to this book with this ledger, from an opening that promised the law
  pub record Going (b : Book E) (l : Ledger) : Type 0 where
    pub reached : Reached b l
    pub lawful : Lawful reached.first (started reached.bytes reached.mark)

  -- the ticket is that of the three routes
  pub record Holding (b : Book E) (t : Ticket) : Type 0 where
    pub shown : List ℕ
    pub going : Going b (with_three shown)
    pub mark : t.mark ≡ 7
    pub number : t.number ≡ 1

  -- the three routes were booked and released
  pub record Returned (b : Book E) : Type 0 where
    pub shown : List ℕ
    pub going : Going b (given_back shown)
