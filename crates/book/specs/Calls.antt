-- One relation for each call on a book: the book at entry, the arguments, every list at entry and at exit, the book at
-- exit and the result. Each begins with the first check that applies.
use Rattle.std.specs.Prelude.{◌≡◌, ℕ, ◌+◌, ◌<◌, Bool, cond, not, ◌||◌, List, [], ◌∷◌, ◌++◌, map, length, take, drop, is_some, Some, None, Ok, Err, vec_items, Option, Result, ◌==◌, nat_le, nat_lt, slice_index_or}
use Rattle.network.specs.declared.line.Line.{Line}
use Rattle.network.specs.declared.line.LineState.TheVariants.{Free, Held}
use Rattle.network.specs.declared.site.Site.{Site}
use Rattle.network.specs.Lines.{line_at}
use Rattle.network.specs.Sides.{size_below}
use Rattle.network.specs.Cuts.{level_of}
use Rattle.network.specs.Groups.{group_list, group_count}
use Rattle.network.specs.Routes.{FreeRoutes, encoded, on_any}
use Rattle.network.specs.Answers.{PartedBy}
use Rattle.netfile.specs.Search.{position_of}
use Rattle.netfile.specs.Meaning.{first_fault, sites_in, lines_in}
use Rattle.book.specs.declared.fault.Fault.{Fault}
use Rattle.book.specs.declared.fault.Fault.TheVariants.{AlreadyOpen, Network, NoSuchSite, SameSite, LevelOutOfRange, NumbersSpent, TooFewRoutes, NoSuchBooking, ShortList}
use Rattle.book.specs.declared.fault.Cut.{Cut}
use Rattle.book.specs.declared.standing.Standing.{Standing}
use Rattle.book.specs.declared.ticket.Ticket.{Ticket}
use Rattle.book.specs.declared.ticket.Denied.{Denied}
use Rattle.book.specs.declared.held.Book.{Book}
use Rattle.book.specs.Ledger.{with_state}
use Rattle.book.specs.Tables.{held_by, lines_on, stands, offset_of, length_of, without}
use Rattle.book.specs.Grounds.{Ground, already_open, no_site, same_site, level_out, numbers_spent, too_few, no_booking, list_short, ground_of, check, file_check}

-- the place of the first site of a number, where there is one
abbrev pub place_in : List Site → ℕ → Option ℕ
place_in ss j = position_of (map (λ s. s.number) ss) j

-- that place, or 0
abbrev pub place_or_0 : Option ℕ → ℕ
place_or_0 (Some p) = p
place_or_0 None = 0

abbrev pub place : List Site → ℕ → ℕ
place ss j = place_or_0 (place_in ss j)

abbrev pub no_call_sign : Site
no_call_sign = record { number = 0; call_sign = [] }

-- the number of the site at a place
abbrev pub site_number : List Site → ℕ → ℕ
site_number ss p = (slice_index_or ss p no_call_sign).number

-- a level that cannot be asked for
abbrev pub k_out : ℕ → Bool
k_out k = k == 0 || nat_lt 512 k

module _ {E : Type 0} where
  abbrev pub sites_of : Book E → List Site
  sites_of b = vec_items b.sites

  abbrev pub lines_of : Book E → List Line
  lines_of b = vec_items b.lines

  abbrev pub rows_of : Book E → List Standing
  rows_of b = vec_items b.standing

  abbrev pub shown_of : Book E → List ℕ
  shown_of b = vec_items b.shown

  abbrev pub size_of : Book E → ℕ
  size_of b = length (sites_of b)

  -- the level of two sites over the lines that are free now
  abbrev pub book_level : Book E → ℕ → ℕ → ℕ
  book_level b x y = level_of (size_of b) (lines_of b) (place (sites_of b) x) (place (sites_of b) y)

  -- a side that holds the first site and not the second, and that exactly v free lines cross
  abbrev pub SideOf : Book E → ℕ → ℕ → ℕ → ℕ → Type 0
  SideOf b x y v s = PartedBy (size_of b) (lines_of b) (place (sites_of b) x) (place (sites_of b) y) v s

  -- opening
  abbrev pub opening_check : Book E → List ℕ → Option Ground
  opening_check b bytes = check (not (size_of b == 0)) already_open (file_check (first_fault bytes))

  pub record Started (bytes : List ℕ) (m : ℕ) (after : Book E) : Type 0 where
    pub sites : sites_of after ≡ sites_in bytes
    pub lines : lines_of after ≡ lines_in bytes
    pub rows : rows_of after ≡ []
    pub shown : shown_of after ≡ []
    pub mark : after.mark ≡ m
    pub count : after.count ≡ 0

  abbrev pub Opened : Book E → List ℕ → ℕ → Book E → Result (Unit {0}) Fault → Type 0
  Opened b bytes m after (Ok u) = (opening_check b bytes ≡ None) × Started bytes m after
  Opened b bytes m after (Err f) = (opening_check b bytes ≡ Some (ground_of f)) × (after ≡ b)

  -- questions
  abbrev pub sites_check : Book E → ℕ → ℕ → Option Ground → Option Ground
  sites_check b x y rest =
      check (not (is_some (place_in (sites_of b) x))) (no_site x) (check (not (is_some (place_in (sites_of b) y))) (no_site y) (check (x == y) same_site rest))

  abbrev pub LevelAsked : Book E → ℕ → ℕ → Result ℕ Fault → Type 0
  LevelAsked b x y (Ok v) = (sites_check b x y None ≡ None) × (v ≡ book_level b x y)
  LevelAsked b x y (Err f) = sites_check b x y None ≡ Some (ground_of f)

  abbrev pub CutAsked : Book E → ℕ → ℕ → Result Cut Fault → Type 0
  CutAsked b x y (Ok c) =
      (sites_check b x y None ≡ None) × (c.level ≡ book_level b x y) × SideOf b x y c.level c.side × (c.size ≡ size_below 64 c.side)
  CutAsked b x y (Err f) = sites_check b x y None ≡ Some (ground_of f)

  -- booking
  abbrev pub booking_check : Book E → ℕ → ℕ → ℕ → Option Ground
  booking_check b x y k =
      sites_check b x y (check (k_out k) level_out (check (nat_le 65535 b.count) numbers_spent (check (nat_lt (book_level b x y) k) too_few None)))

  -- what comes along where there are too few routes
  abbrev pub FewShown : Book E → ℕ → ℕ → Fault → Type 0
  FewShown b x y AlreadyOpen = Unit {0}
  FewShown b x y (Network f) = Unit {0}
  FewShown b x y (NoSuchSite j) = Unit {0}
  FewShown b x y SameSite = Unit {0}
  FewShown b x y LevelOutOfRange = Unit {0}
  FewShown b x y NumbersSpent = Unit {0}
  FewShown b x y (TooFewRoutes f) = (f.value ≡ book_level b x y) × SideOf b x y f.value f.side
  FewShown b x y NoSuchBooking = Unit {0}
  FewShown b x y ShortList = Unit {0}

  -- k separate routes of free lines are held under the next number, and no other line changes
  pub record Taken (b : Book E) (x y k : ℕ) (after : Book E) (t : Ticket) : Type 0 where
    pub routes : List (List ℕ)
    pub chosen : FreeRoutes (lines_of b) (place (sites_of b) x) (place (sites_of b) y) k routes
    pub sites : sites_of after ≡ sites_of b
    pub size : length (lines_of after) ≡ length (lines_of b)
    pub line : (p : ℕ) → p < length (lines_of b) →
        line_at (lines_of after) p ≡ cond (on_any routes p) (with_state (Held (b.count + 1)) (line_at (lines_of b) p)) (line_at (lines_of b) p)
    pub rows : rows_of after ≡ rows_of b ++ record { number = b.count + 1; held = lines_on routes; length = length (encoded (lines_of b) routes) } ∷ []
    pub shown : shown_of after ≡ shown_of b ++ encoded (lines_of b) routes
    pub mark : after.mark ≡ b.mark
    pub count : after.count ≡ b.count + 1
    pub ticket_mark : t.mark ≡ b.mark
    pub ticket_number : t.number ≡ b.count + 1

  abbrev pub Booked : Book E → ℕ → ℕ → ℕ → Book E → Result Ticket Fault → Type 0
  Booked b x y k after (Ok t) = (booking_check b x y k ≡ None) × Taken b x y k after t
  Booked b x y k after (Err f) = (booking_check b x y k ≡ Some (ground_of f)) × FewShown b x y f × (after ≡ b)

  -- release
  abbrev pub ticket_check : Book E → Ticket → Option Ground → Option Ground
  ticket_check b t rest = check (not (t.mark == b.mark) || not (stands t.number (rows_of b))) no_booking rest

  pub record Freed (b : Book E) (j : ℕ) (after : Book E) : Type 0 where
    pub sites : sites_of after ≡ sites_of b
    pub size : length (lines_of after) ≡ length (lines_of b)
    pub line : (p : ℕ) → p < length (lines_of b) →
        line_at (lines_of after) p ≡ cond (held_by j (line_at (lines_of b) p).state) (with_state Free (line_at (lines_of b) p)) (line_at (lines_of b) p)
    pub rows : rows_of after ≡ without j (rows_of b)
    pub shown : shown_of after ≡ take (offset_of j (rows_of b)) (shown_of b) ++ drop (offset_of j (rows_of b) + length_of j (rows_of b)) (shown_of b)
    pub mark : after.mark ≡ b.mark
    pub count : after.count ≡ b.count

  abbrev pub Released : Book E → Ticket → Book E → Result (Unit {0}) Denied → Type 0
  Released b t after (Ok u) = (ticket_check b t None ≡ None) × Freed b t.number after
  Released b t after (Err d) = (ticket_check b t None ≡ Some (ground_of d.fault)) × (d.ticket ≡ t) × (after ≡ b)

  -- showing
  abbrev pub stretch : Book E → ℕ → List ℕ
  stretch b j = take (length_of j (rows_of b)) (drop (offset_of j (rows_of b)) (shown_of b))

  abbrev pub showing_check : Book E → Ticket → ℕ → Option Ground
  showing_check b t room = ticket_check b t (check (nat_lt room (length_of t.number (rows_of b))) list_short None)

  abbrev pub Showed : Book E → Ticket → List ℕ → List ℕ → Result ℕ Fault → Type 0
  Showed b t list list' (Ok n) =
      (showing_check b t (length list) ≡ None) × (n ≡ length_of t.number (rows_of b)) × (list' ≡ stretch b t.number ++ drop n list)
  Showed b t list list' (Err f) = (showing_check b t (length list) ≡ Some (ground_of f)) × (list' ≡ list)

  -- group list
  abbrev pub groups_check : Book E → ℕ → ℕ → Option Ground
  groups_check b k room = check (k_out k) level_out (check (nat_lt room (size_of b)) list_short None)

  abbrev pub GroupsListed : Book E → ℕ → List ℕ → List ℕ → Result ℕ Fault → Type 0
  GroupsListed b k list list' (Ok m) =
      (groups_check b k (length list) ≡ None) × (m ≡ group_count (size_of b) (lines_of b) k)
      × (list' ≡ map (site_number (sites_of b)) (group_list (size_of b) (lines_of b) k) ++ drop (size_of b) list)
  GroupsListed b k list list' (Err f) = (groups_check b k (length list) ≡ Some (ground_of f)) × (list' ≡ list)
