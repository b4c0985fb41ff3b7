-- The ledger: what a caller could write down with a pencil. It is fed each call's arguments, whether the call was
-- accepted and, with an accepted booking, the numbers that a showing of the new ticket writes. It names nothing of the
-- program's.
use Rattle.std.specs.Prelude.{ℕ, suc, ◌+◌, cond, List, [], ◌∷◌, ◌++◌, map, length, ◌==◌}
use Rattle.std.specs.List.{range_with_len}
use Rattle.network.specs.declared.line.Line.{Line}
use Rattle.network.specs.declared.line.LineState.{LineState}
use Rattle.network.specs.declared.line.LineState.TheVariants.{Free, Held}
use Rattle.network.specs.declared.site.Site.{Site}
use Rattle.network.specs.Lines.{line_at}
use Rattle.network.specs.Routes.{on_any, decode}
use Rattle.netfile.specs.Meaning.{sites_in, lines_in}

-- a booking: its number, the two sites, how many routes were wanted, and the routes that were shown for it
pub record Booking : Type 0 where
  pub number : ℕ
  pub from : ℕ
  pub to : ℕ
  pub wanted : ℕ
  pub routes : List (List ℕ)

-- the opened file's network, the mark it was opened with, how many bookings were accepted, and those that stand
pub record Ledger : Type 0 where
  pub sites : List Site
  pub lines : List Line
  pub mark : ℕ
  pub count : ℕ
  pub standing : List Booking

-- just after an accepted opening
abbrev pub started : List ℕ → ℕ → Ledger
started bytes m = record { sites = sites_in bytes; lines = lines_in bytes; mark = m; count = 0; standing = [] }

-- the numbers of the standing bookings that have the line p on a route
unfoldable pub holders : ℕ → List Booking → List ℕ
holders p [] = []
holders p (k ∷ ks) = cond (on_any k.routes p) (k.number ∷ []) [] ++ holders p ks

-- a line is free that no standing booking has on a route
abbrev pub state_by : List ℕ → LineState
state_by [] = Free
state_by (j ∷ js) = Held j

abbrev pub with_state : LineState → Line → Line
with_state s l = record { number = l.number; first = l.first; second = l.second; state = s }

-- the lines as they are by the ledger now
abbrev pub lines_now : Ledger → List Line
lines_now l = map (λ p. with_state (state_by (holders p l.standing)) (line_at l.lines p)) (range_with_len 0 (length l.lines))

-- an accepted booking of k routes between two sites: ns is what was shown
abbrev pub entered : Ledger → ℕ → ℕ → ℕ → List ℕ → Ledger
entered l x y k ns = record {
  sites = l.sites;
  lines = l.lines;
  mark = l.mark;
  count = l.count + 1;
  standing = l.standing ++ record { number = l.count + 1; from = x; to = y; wanted = k; routes = decode l.lines ns } ∷ [];
}

-- the booking of number j ends
unfoldable pub ended : ℕ → List Booking → List Booking
ended j [] = []
ended j (k ∷ ks) = cond (k.number == j) [] (k ∷ []) ++ ended j ks

-- an accepted release of its ticket
abbrev pub struck : Ledger → ℕ → Ledger
struck l j = record { sites = l.sites; lines = l.lines; mark = l.mark; count = l.count; standing = ended j l.standing }

-- the place of the first site of a number, or the number of sites
unfoldable pub place_of : List Site → ℕ → ℕ
place_of [] j = 0
place_of (s ∷ ss) j = cond (s.number == j) 0 (suc (place_of ss j))
