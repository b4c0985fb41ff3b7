use Rattle.std.proofs.lemmas.Bool.{false≢true}
use Rattle.std.proofs.Common.{Err}
use Rattle.cases.proofs.Following.{three_accepted, three_held}
use Rattle.cases.proofs.calls.once_open.Goals as goal

pub with_three-requires : goal.with_three-requires
with_three-requires g c = three_held c.args.book.now c.want.new.book c.in_ok-ticket.ticket c.requires c.in_ok-ticket.ensures.booked

pub returns-in_err-ticket : goal.returns-in_err-ticket
returns-in_err-ticket g c =
    absurd (false≢true (three_accepted c.args.book.now (Err c.in_err-ticket.field-0.0) c.requires c.in_err-ticket.ensures.lawful))
