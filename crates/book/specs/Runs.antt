-- Runs: every book and ledger that any calls lead to, and the law of all of them.
use Rattle.std.specs.Prelude.{◌≡◌, ℕ, ◌^◌, ◌<◌, ◌≤◌, true, false, ◌≢◌, ◌⊎◌, ◌↔◌, List, [], ◌∷◌, ◌++◌, map, length, drop, is_ok, Some, None, Ok, Err, Result, slice_index, slice_index_or}
use Rattle.network.specs.declared.line.LineState.{LineState}
use Rattle.network.specs.declared.line.LineState.TheVariants.{Free, Held}
use Rattle.network.specs.Lines.{line_at}
use Rattle.network.specs.Sides.{member, differ}
use Rattle.network.specs.Cuts.{crossing}
use Rattle.network.specs.Groups.{Share}
use Rattle.network.specs.Routes.{SeparateRoutes, encoded}
use Rattle.network.specs.Answers.{PartedBy}
use Rattle.book.specs.declared.fault.Fault.{Fault}
use Rattle.book.specs.declared.fault.Fault.TheVariants.{TooFewRoutes}
use Rattle.book.specs.declared.fault.Cut.{Cut}
use Rattle.book.specs.declared.ticket.Ticket.{Ticket}
use Rattle.book.specs.declared.ticket.Denied.{Denied}
use Rattle.book.specs.declared.held.Book.{Book}
use Rattle.book.specs.Ledger.{Ledger, Booking, started, entered, struck, holders, lines_now}
use Rattle.book.specs.Grounds.{too_few}
use Rattle.book.specs.Calls.{sites_of, lines_of, rows_of, place_in, Opened, Booked, Released, Showed, LevelAsked, CutAsked, GroupsListed, booking_check}

-- an accepted opening begins the ledger anew
abbrev pub reopened : Ledger → List ℕ → ℕ → Result (Unit {0}) Fault → Ledger
reopened l bytes m (Ok u) = started bytes m
reopened l bytes m (Err f) = l

-- the numbers of the bookings that a line's state names
abbrev pub holds : LineState → List ℕ
holds Free = []
holds (Held n) = n ∷ []

-- what stands past the last standing booking
abbrev pub no_booking_there : Booking
no_booking_there = record { number = 0; from = 0; to = 0; wanted = 0; routes = [] }

abbrev pub booking_at : Ledger → ℕ → Booking
booking_at l i = slice_index_or l.standing i no_booking_there

-- two different sites of the ledger's network, with their places, and a level that can be asked for
pub record Asked (l : Ledger) (x y px py k : ℕ) : Type 0 where
  pub first : place_in l.sites x ≡ Some px
  pub second : place_in l.sites y ≡ Some py
  pub apart : x ≢ y
  pub low : 1 ≤ k
  pub high : k ≤ 512
  pub numbers_left : l.count < 65535

-- they share a group at level k over the lines that the ledger has free
abbrev pub Sharing : Ledger → ℕ → ℕ → ℕ → Type 0
Sharing l px py k = Share (length l.sites) (lines_now l) k px py

-- fewer than k free lines cross some set of places that holds exactly one of them
abbrev pub SmallCut : Ledger → ℕ → ℕ → ℕ → Type 0
SmallCut l px py k = (s : ℕ) × (s < 2 ^ length l.sites) × (differ (member s px) (member s py) ≡ true) × (crossing (lines_now l) s < k)

module _ {E : Type 0} where
  -- every showing of a ticket of this mark and number, into any list with room, is accepted and writes these numbers
  abbrev pub Shows : Book E → ℕ → ℕ → List ℕ → Type 0
  Shows b m j ns = (t : Ticket) (list list' : List ℕ) (r : Result ℕ Fault) → t.mark ≡ m → t.number ≡ j → length ns ≤ length list →
      Showed b t list list' r → (r ≡ Ok (length ns)) × (list' ≡ ns ++ drop (length ns) list)

  -- one call with any arguments, and what it does to the ledger; a denied one does nothing to it
  pub data Step : Book E → Ledger → Book E → Ledger → Type 0 where
    opens : (b : Book E) (l : Ledger) (bytes : List ℕ) (m : ℕ) (after : Book E) (r : Result (Unit {0}) Fault) → Opened b bytes m after r → Step b l after (reopened l bytes m r)
    books : (b : Book E) (l : Ledger) (x y k : ℕ) (after : Book E) (t : Ticket) → Booked b x y k after (Ok t) → (ns : List ℕ) → Shows after t.mark t.number ns → Step b l after (entered l x y k ns)
    denies : (b : Book E) (l : Ledger) (x y k : ℕ) (after : Book E) (f : Fault) → Booked b x y k after (Err f) → Step b l after l
    releases : (b : Book E) (l : Ledger) (t : Ticket) (after : Book E) (u : Unit {0}) → Released b t after (Ok u) → Step b l after (struck l t.number)
    keeps : (b : Book E) (l : Ledger) (t : Ticket) (after : Book E) (d : Denied) → Released b t after (Err d) → Step b l after l
    shows : (b : Book E) (l : Ledger) (t : Ticket) (list list' : List ℕ) (r : Result ℕ Fault) → Showed b t list list' r → Step b l b l
    asks_level : (b : Book E) (l : Ledger) (x y : ℕ) (r : Result ℕ Fault) → LevelAsked b x y r → Step b l b l
    asks_cut : (b : Book E) (l : Ledger) (x y : ℕ) (r : Result Cut Fault) → CutAsked b x y r → Step b l b l
    lists : (b : Book E) (l : Ledger) (k : ℕ) (list list' : List ℕ) (r : Result ℕ Fault) → GroupsListed b k list list' r → Step b l b l

  -- any number of calls
  pub data Run (b₀ : Book E) (l₀ : Ledger) : Book E → Ledger → Type 0 where
    begun : Run b₀ l₀ b₀ l₀
    onward : {b : Book E} {l : Ledger} {after : Book E} {l' : Ledger} → Run b₀ l₀ b l → Step b l after l' → Run b₀ l₀ after l'

  -- groups are bookable
  pub record Bookable (b : Book E) (l : Ledger) (x y px py k : ℕ) : Type 0 where
    pub few_or_none : (booking_check b x y k ≡ None) ⊎ (booking_check b x y k ≡ Some too_few)
    pub passes : (booking_check b x y k ≡ None) ↔ Sharing l px py k
    pub outcome : (after : Book E) (r : Result Ticket Fault) → Booked b x y k after r → (is_ok r ≡ true) ↔ Sharing l px py k
    pub listing : (list list' : List ℕ) (r : Result ℕ Fault) → length l.sites ≤ length list → GroupsListed b k list list' r →
        (is_ok r ≡ true) × ((slice_index list' px ≡ slice_index list' py) ↔ Sharing l px py k)

  -- too few means a small cut, and the denial shows the smallest
  pub record SmallestShown (b : Book E) (l : Ledger) (x y px py k : ℕ) : Type 0 where
    pub denied_as_few : (booking_check b x y k ≡ Some too_few) ↔ SmallCut l px py k
    pub shown : (after : Book E) (v s : ℕ) → Booked b x y k after (Err (TooFewRoutes (record { value = v; side = s }))) →
        PartedBy (length l.sites) (lines_now l) px py v s × (v < k)
        × ((c : ℕ) → c < 2 ^ length l.sites → differ (member c px) (member c py) ≡ true → v ≤ crossing (lines_now l) c)

  -- the booking that stands at place i of the ledger has k separate routes between its sites, and every showing of a
  -- ticket with the book's mark and its number writes just these
  pub record Standing (b : Book E) (l : Ledger) (i : ℕ) : Type 0 where
    pub from_place : ℕ
    pub to_place : ℕ
    pub first : place_in l.sites (booking_at l i).from ≡ Some from_place
    pub second : place_in l.sites (booking_at l i).to ≡ Some to_place
    pub separates : SeparateRoutes l.lines from_place to_place (booking_at l i).wanted (booking_at l i).routes
    pub writes : Shows b b.mark (booking_at l i).number (encoded l.lines (booking_at l i).routes)
    pub given : (1 ≤ (booking_at l i).number) × ((booking_at l i).number ≤ l.count)
    pub rising : (j : ℕ) → j < i → (booking_at l j).number < (booking_at l i).number

  -- lines are conserved: each is on no standing booking's route or on those of exactly one, and the book's table says
  -- which
  pub record Conserved (b : Book E) (l : Ledger) : Type 0 where
    pub sites : sites_of b ≡ l.sites
    pub lines : lines_of b ≡ lines_now l
    pub once : (p : ℕ) → p < length l.lines → holders p l.standing ≡ holds (line_at (lines_of b) p).state
    pub mark : b.mark ≡ l.mark
    pub count : b.count ≡ l.count
    pub numbers : map (λ s. s.number) (rows_of b) ≡ map (λ k. k.number) l.standing
    pub standing : (i : ℕ) → i < length l.standing → Standing b l i

  pub record Law (b : Book E) (l : Ledger) : Type 0 where
    pub bookable : (x y px py k : ℕ) → Asked l x y px py k → Bookable b l x y px py k
    pub smallest : (x y px py k : ℕ) → Asked l x y px py k → SmallestShown b l x y px py k
    pub conserved : Conserved b l

  -- the law of every book and ledger that calls lead to from here
  abbrev pub Lawful : Book E → Ledger → Type 0
  Lawful b₀ l₀ = (b : Book E) (l : Ledger) → Run b₀ l₀ b l → Law b l

  -- some accepted opening and some calls after it led to this book with this ledger
  pub record Reached (b : Book E) (l : Ledger) : Type 0 where
    pub before : Book E
    pub first : Book E
    pub bytes : List ℕ
    pub mark : ℕ
    pub opening : Opened before bytes mark first (Ok tt)
    pub run : Run first (started bytes mark) b l

  -- what a booking on such a book answers
  abbrev pub BookedByLaw : Book E → ℕ → ℕ → ℕ → Result Ticket Fault → Type 0
  BookedByLaw b x y k r = (l : Ledger) → Reached b l → (px py : ℕ) → Asked l x y px py k →
      ((is_ok r ≡ true) ↔ Sharing l px py k) × ((is_ok r ≡ false) ↔ SmallCut l px py k)

  -- what a showing on such a book writes
  abbrev pub ShowedByLaw : Book E → Ticket → List ℕ → List ℕ → Result ℕ Fault → Type 0
  ShowedByLaw b t list list' r = (l : Ledger) → Reached b l → (i : ℕ) → i < length l.standing → t.mark ≡ l.mark → t.number ≡ (booking_at l i).number →
      let ns = encoded l.lines (booking_at l i).routes in
      length ns ≤ length list → (r ≡ Ok (length ns)) × (list' ≡ ns ++ drop (length ns) list)

  -- what a group list on such a book writes
  abbrev pub ListedByLaw : Book E → ℕ → List ℕ → List ℕ → Result ℕ Fault → Type 0
  ListedByLaw b k list list' r = (l : Ledger) → Reached b l → (x y px py : ℕ) → Asked l x y px py k → length l.sites ≤ length list →
      (is_ok r ≡ true) × ((slice_index list' px ≡ slice_index list' py) ↔ Sharing l px py k)
