-- One relation for each call: its arguments, its list at entry and at exit, and the answer. An answer from 2 to 16 is the
-- number of a check of the line book; 254 is no such engine, and 255 no memory.
use Rattle.std.specs.Prelude.{◌≡◌, ℕ, ◌*◌, ◌/◌, ◌%◌, ◌<◌, ◌≤◌, cond, not, ◌⊎◌, List, [], ◌++◌, map, length, drop, is_some, Some, None, Err, vec_items, Option, Result, ◌==◌, ◌≢◌, nat_lt, slice_index}
use Rattle.network.specs.declared.line.Line.{Line}
use Rattle.network.specs.declared.line.LineState.TheVariants.{Free}
use Rattle.network.specs.declared.site.Site.{Site}
use Rattle.network.specs.Lines.{line_at}
use Rattle.network.specs.Cuts.{level_of}
use Rattle.network.specs.Groups.{group_list, group_count}
use Rattle.netfile.specs.Faults.{number_of}
use Rattle.netfile.specs.Meaning.{first_fault, sites_in, lines_in}
use Rattle.netfile.specs.declared.faults.NetworkFault.{NetworkFault}
use Rattle.book.specs.Calls.{sites_of, lines_of, place_in, place, site_number, k_out}
use Rattle.desk.specs.declared.desk.Desk.{Desk}
use Rattle.cuttree.specs.Trees.{two_places}
use Rattle.capi.specs.declared.refusal.Refusal.{Refusal}
use Rattle.capi.specs.declared.refusal.Refusal.TheVariants.{NoMemory}
use Rattle.capi.specs.Refusals.{Answered}

-- the first answer that is not 0
abbrev pub or_then : ℕ → ℕ → ℕ
or_then r rest = cond (r == 0) rest r

abbrev pub fault_or_0 : Option NetworkFault → ℕ
fault_or_0 None = 0
fault_or_0 (Some f) = number_of f

-- the number of the file's first fault, or 0
abbrev pub file_answer : List ℕ → ℕ
file_answer bs = fault_or_0 (first_fault bs)

abbrev pub no_engine : ℕ → ℕ
no_engine engine = cond (nat_lt 1 engine) 254 0

-- how many sites a file has
abbrev pub site_total : List ℕ → ℕ
site_total bs = length (sites_in bs)

-- a desk on which no network was opened
pub record Unopened {E : Type 0} (d : Desk E) : Type 0 where
  pub sites : sites_of d.book ≡ []
  pub passes : vec_items d.passes ≡ []

-- a task goes by the number of the first check that denies it on these sites and lines with so much room in its list, or 0,
-- and by what it does to the list and answers
module _ {X A : Type 0} (check : List Site → List Line → ℕ → ℕ) (done : List Site → List Line → List X → List X → A → Type 0) where
  -- what it leaves of a network
  abbrev pub OnNetwork : List Site → List Line → List X → List X → Result A Refusal → Type 0
  OnNetwork ss ls list list' r = Answered (check ss ls (length list)) (done ss ls list list') (list' ≡ list) r

  -- .. of the network of a file, after the checks of the file
  abbrev pub OnFile : List ℕ → List X → List X → Result A Refusal → Type 0
  OnFile bs list list' r =
      Answered (or_then (file_answer bs) (check (sites_in bs) (lines_in bs) (length list))) (done (sites_in bs) (lines_in bs) list list') (list' ≡ list) r

  -- .. over one engine, with as much memory as there is
  abbrev pub OverEngine : List ℕ → List X → List X → Result A Refusal → Type 0
  OverEngine bs list list' r = OnFile bs list list' r ⊎ ((r ≡ Err NoMemory) × (list' ≡ list))

  -- .. over the engine of a number
  abbrev pub OverAny : ℕ → List ℕ → List X → List X → Result A Refusal → Type 0
  OverAny engine bs list list' r =
      Answered
      (or_then (no_engine engine) (or_then (file_answer bs) (check (sites_in bs) (lines_in bs) (length list))))
      (done (sites_in bs) (lines_in bs) list list')
      (list' ≡ list)
      r
      ⊎ ((r ≡ Err NoMemory) × (engine ≤ 1) × (list' ≡ list))

-- the level of two different places, and 0 of others
abbrev pub level_or_0 : ℕ → List Line → ℕ → ℕ → ℕ
level_or_0 n ls x y = cond (two_places n x y) (level_of n ls x y) 0

-- the list has the levels of all places by all places, row by row, and goes on as before
pub record LevelsWritten (n : ℕ) (ls : List Line) (list list' : List ℕ) : Type 0 where
  pub each : (i : ℕ) → i < n * n → slice_index list' i ≡ level_or_0 n ls (i / n) (i % n)
  pub rest : (i : ℕ) → n * n ≤ i → slice_index list' i ≡ slice_index list i

-- the number of the check that denies the levels, or 0
abbrev pub levels_number : ℕ → ℕ → ℕ
levels_number n room = cond (nat_lt room (n * n)) 16 0

abbrev pub levels_check : List ℕ → ℕ → ℕ
levels_check bs room = or_then (file_answer bs) (levels_number (site_total bs) room)

-- over the engine of a number
pub record LevelsTold (engine : ℕ) (bs list list' : List ℕ) (r : ℕ) : Type 0 where
  pub answer : (r ≡ or_then (no_engine engine) (levels_check bs (length list))) ⊎ ((r ≡ 255) × (engine ≤ 1))
  pub done : r ≡ 0 → LevelsWritten (site_total bs) (lines_in bs) list list'
  pub kept : (r ≢ 0) → list' ≡ list

-- the number of a site that is not there, or of two that are the same, or else the rest
abbrev pub sites_number : List Site → ℕ → ℕ → ℕ → ℕ
sites_number ss x y rest = cond (not (is_some (place_in ss x))) 10 (cond (not (is_some (place_in ss y))) 10 (cond (x == y) 11 rest))

-- the level of two sites
abbrev pub level_between : List Site → List Line → ℕ → ℕ → ℕ
level_between ss ls x y = level_of (length ss) ls (place ss x) (place ss y)

-- the number of the first check that denies a booking in a book of these sites and free lines, or 0
abbrev pub booking_number : List Site → List Line → ℕ → ℕ → ℕ → ℕ
booking_number ss ls x y k = sites_number ss x y (cond (k_out k) 12 (cond (nat_lt (level_between ss ls x y) k) 14 0))

-- nothing is asked where nothing is booked
abbrev pub bookings_number : List Site → List Line → ℕ → ℕ → ℕ → ℕ → ℕ
bookings_number ss ls x y k turns = cond (turns == 0) 0 (booking_number ss ls x y k)

-- .. or the level afterwards
abbrev pub bookings_level_number : List Site → List Line → ℕ → ℕ → ℕ → ℕ → ℕ
bookings_level_number ss ls x y k turns = or_then (bookings_number ss ls x y k turns) (sites_number ss x y 0)

-- a desk without a booking, after so many, and with all lines free
pub record Idle {E : Type 0} (d : Desk E) (count : ℕ) : Type 0 where
  pub passes : vec_items d.passes ≡ []
  pub counted : d.book.count ≡ count
  pub free : (p : ℕ) → p < length (lines_of d.book) → (line_at (lines_of d.book) p).state ≡ Free

-- so many bookings and releases leave the sites and lines as they were
pub record BookedOften {E : Type 0} (d : Desk E) (x y k turns : ℕ) (after : Desk E) (r : ℕ) : Type 0 where
  pub answer : r ≡ bookings_number (sites_of d.book) (lines_of d.book) x y k turns
  pub sites : sites_of after.book ≡ sites_of d.book
  pub lines : lines_of after.book ≡ lines_of d.book

abbrev pub bookings_check : List ℕ → ℕ → ℕ → ℕ → ℕ → ℕ
bookings_check bs x y k turns = or_then (file_answer bs) (bookings_level_number (sites_in bs) (lines_in bs) x y k turns)

-- over the engine of a number
pub record BookingsTold (engine : ℕ) (bs : List ℕ) (x y k turns level level' r : ℕ) : Type 0 where
  pub answer : (r ≡ or_then (no_engine engine) (bookings_check bs x y k turns)) ⊎ ((r ≡ 255) × (engine ≤ 1))
  pub done : r ≡ 0 → level' ≡ level_between (sites_in bs) (lines_in bs) x y
  pub kept : (r ≢ 0) → level' ≡ level

-- the number of the first check that denies a group list, or 0
abbrev pub groups_number : ℕ → ℕ → ℕ → ℕ
groups_number n k room = cond (k_out k) 12 (cond (nat_lt room n) 16 0)

-- the list begins with the number of the lowest site of each site's group and goes on as before, and the count is that of
-- the groups
pub record GroupsWritten (ss : List Site) (ls : List Line) (k count : ℕ) (list list' : List ℕ) : Type 0 where
  pub counted : count ≡ group_count (length ss) ls k
  pub entries : list' ≡ map (site_number ss) (group_list (length ss) ls k) ++ drop (length ss) list

abbrev pub groups_check : List ℕ → ℕ → ℕ → ℕ
groups_check bs k room = or_then (file_answer bs) (groups_number (site_total bs) k room)

-- over the engine of a number
pub record GroupsTold (engine : ℕ) (bs : List ℕ) (k count count' : ℕ) (list list' : List ℕ) (r : ℕ) : Type 0 where
  pub answer : (r ≡ or_then (no_engine engine) (groups_check bs k (length list))) ⊎ ((r ≡ 255) × (engine ≤ 1))
  pub done : r ≡ 0 → GroupsWritten (sites_in bs) (lines_in bs) k count' list list'
  pub kept : (r ≢ 0) → (count' ≡ count) × (list' ≡ list)
