-- What the steps of a call on a book answer.
use Rattle.std.specs.Prelude.{◌≡◌, ℕ, ◌<◌, ◌≤◌, List, length, take, Some, None, Ok, Err, vec_len, Option, Result}
use Rattle.network.specs.declared.line.Line.{Line}
use Rattle.network.specs.Cuts.{level_of}
use Rattle.network.specs.Routes.{FreeRoutes, written}
use Rattle.network.specs.Answers.{PartedBy}
use Rattle.book.specs.declared.fault.Fault.{Fault}
use Rattle.book.specs.declared.fault.Fault.TheVariants.{TooFewRoutes}
use Rattle.book.specs.declared.held.Book.{Book}
use Rattle.network.specs.declared.pair.Pair.{Pair}
use Rattle.book.specs.declared.tables.Stretch.{Stretch}
use Rattle.book.specs.declared.ticket.Ticket.{Ticket}
use Rattle.book.specs.Grounds.{Ground, ground_of, no_booking}
use Rattle.book.specs.Listings.{Found}
use Rattle.book.specs.Calls.{place_in, ticket_check, rows_of, sites_of, lines_of, sites_check, place, booking_check, FewShown}

-- k separate routes of free lines stand at the front of the list, as w counts and positions
pub record Planned (ls : List Line) (a b k : ℕ) (list : List ℕ) (w : ℕ) : Type 0 where
  pub routes : List (List ℕ)
  pub chosen : FreeRoutes ls a b k routes
  pub room : w ≤ length list
  pub listed : take w list ≡ written (λ p. p) routes

-- k separate routes where the level is k or more, else the level and a side that shows it
abbrev pub Chosen : ℕ → List Line → ℕ → ℕ → ℕ → List ℕ → Result ℕ Fault → Type 0
Chosen n ls a b k list (Ok w) = (k ≤ level_of n ls a b) × Planned ls a b k list w
Chosen n ls a b k list (Err f) = (level_of n ls a b < k) × ((s : ℕ) × (f ≡ TooFewRoutes (record { value = level_of n ls a b; side = s })) × PartedBy n ls a b (level_of n ls a b) s)

module _ {E : Type 0} where
  -- where the booking of a ticket of this book stands
  abbrev pub StandsAt : Book E → Ticket → Option Stretch → Type 0
  StandsAt b t None = ticket_check b t None ≡ Some no_booking
  StandsAt b t (Some f) = (ticket_check b t None ≡ None) × Found (rows_of b) t.number f.row f.from f.length

  -- p and q are the places of two different sites
  pub record TwoPlaces (b : Book E) (x y p q : ℕ) : Type 0 where
    pub first : place_in (sites_of b) x ≡ Some p
    pub second : place_in (sites_of b) y ≡ Some q
    pub apart : x ≡ y → ⊥
    pub first_within : p < vec_len b.sites
    pub second_within : q < vec_len b.sites
    pub two : p ≡ q → ⊥

  -- the places of two different sites, or the check that applies before all others
  abbrev pub Placed : Book E → ℕ → ℕ → Result Pair Fault → Type 0
  Placed b x y (Ok p) = TwoPlaces b x y p.a p.b × (p.net.sites ≡ vec_len b.sites) × (p.net.lines.now ≡ lines_of b)
  Placed b x y (Err f) = ((rest : Option Ground) → sites_check b x y rest ≡ Some (ground_of f)) × FewShown b x y f

  -- no check applies to the booking, and its routes are planned
  pub record Ready (b : Book E) (x y k : ℕ) (list : List ℕ) (w : ℕ) : Type 0 where
    pub passes : booking_check b x y k ≡ None
    pub some : 1 ≤ k
    pub numbers_left : b.count < 65535
    pub opened : 0 < vec_len b.sites
    pub two : place (sites_of b) x ≡ place (sites_of b) y → ⊥
    pub planned : Planned (lines_of b) (place (sites_of b) x) (place (sites_of b) y) k list w

  -- what a booking will take, or the check that applies
  abbrev pub Prepared : Book E → ℕ → ℕ → ℕ → List ℕ → Result ℕ Fault → Type 0
  Prepared b x y k list (Ok w) = Ready b x y k list w
  Prepared b x y k list (Err f) = (booking_check b x y k ≡ Some (ground_of f)) × FewShown b x y f
