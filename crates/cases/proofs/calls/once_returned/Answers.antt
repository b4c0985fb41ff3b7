use Rattle.std.proofs.Common.{Ok, Err, subst}
use Rattle.std.proofs.lemmas.Bool.{true≢false}
use Rattle.book.specs.declared.fault.Fault.{Fault}
use Rattle.book.specs.Calls.{Booked}
use Rattle.cases.proofs.Following.{four_refused, four_shown, only_few}
use Rattle.cases.proofs.calls.once_returned.Goals as goal

pub unreachable-requires : goal.unreachable-requires
unreachable-requires g c = true≢false (four_refused c.args.book.now (Ok c.in-Ok._ticket) c.requires c.in-Ok.ensures.lawful)

pub shown_with-requires : goal.shown_with-requires
shown_with-requires g c = only_few c.args.book.now c.want.new.book c.in-Err.fault c.requires c.in-Err.ensures.booked

pub returns : goal.returns
returns g c =
    four_shown c.args.book.now c.want.new.book c.shown_with.result.value c.shown_with.result.side c.requires
    (subst (λ (f : Fault). Booked c.args.book.now 10 20 4 c.want.new.book (Err f)) c.shown_with.ensures c.in-Err.ensures.booked)
