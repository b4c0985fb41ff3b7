use Rattle.std.proofs.Common.{◌≡◌, ℕ, ◌+◌, sym, ap, ◌∙◌}
use Rattle.std.specs.Prelude.{IsOk, Result}
use Rattle.book.specs.declared.ticket.Ticket.{Ticket}
use Rattle.book.specs.declared.ticket.Denied.{Denied}
use Rattle.book.specs.declared.held.Book.{Book}
use Rattle.book.specs.Calls.{rows_of, Taken, Released}
use Rattle.book.proofs.Rows.{stands_last}
use Rattle.desk.proofs.Keeping.{is_accepted}
use Rattle.booktrials.proofs.marks.hand_over.Goals as goal

-- the ticket that was handed back is the one that the booking made, so the book that made it releases it
handed_back : {E : Type 0} (b after last : Book E) (x y k : ℕ) (t t' : Ticket) (r : Result (Unit {0}) Denied) → Taken b x y k after t → t' ≡ t → Released after t' last r → IsOk r
handed_back b after last x y k t t' r n e released =
    is_accepted after t' last r (ap (λ q. q.mark) e ∙ n.ticket_mark ∙ sym n.mark)
    (rw (e, n.ticket_number, n.rows) (stands_last (record { number = b.count + 1; held = _; length = _ }) (rows_of b)))
    released

pub unwrap-requires : goal.unwrap-requires
unwrap-requires g c =
    handed_back c.args.own.now c.book.new.self c.release-in-Err.new.self 10 20 3 c.in_ok-ticket.ticket c.in-Err.denied.ticket
    c.release-in-Err.result
    c.in_ok-ticket.ensures.booked.1
    c.in-Err.ensures.1
    c.release-in-Err.ensures
