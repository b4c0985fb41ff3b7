use Rattle.std.proofs.Common.{◌≡◌, ◌<◌}
use Rattle.book.specs.Calls.{sites_of, lines_of}
use Rattle.capi.specs.Calls.{Idle, booking_number}
use Rattle.capi.proofs.bookings.Bookings.book_often.Given as goal

-- nothing stands, and sites and lines are as they were; what was booked once is not denied
abbrev pub invariant-loop-turn : goal.invariant-loop-turn
invariant-loop-turn g l =
    Idle l.desk l.turn × (sites_of l.desk.book ≡ sites_of l.initial.desk.book) × (lines_of l.desk.book ≡ lines_of l.initial.desk.book)
    × (0 < l.turn → booking_number (sites_of l.initial.desk.book) (lines_of l.initial.desk.book) l.self.first l.self.second l.self.k ≡ 0)
