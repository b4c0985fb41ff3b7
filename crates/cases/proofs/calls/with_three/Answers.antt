use Rattle.std.proofs.Common.{[], ◌∷◌, is_ok, None, sym, refl, ap, ◌∙◌}
use Rattle.std.proofs.lemmas.Bool.{false≢true}
use Rattle.book.specs.Calls.{ticket_check}
use Rattle.cases.proofs.Following.{never, release_passes, groups_then, three_returned}
use Rattle.cases.proofs.calls.with_three.Goals as goal

pub once_returned-four_denied-requires : goal.once_returned-four_denied-requires
once_returned-four_denied-requires g c = three_returned c.args.book.now c.release.new.self c.args.ticket c.requires c.in-Ok.ensures

pub unreachable-requires : goal.unreachable-requires
unreachable-requires g c =
    never (ticket_check c.args.book.now c.args.ticket None) (release_passes c.args.book.now c.args.ticket c.requires) c.in-Err.ensures.0

pub returns-in_err-listed-in-Ok : goal.returns-in_err-listed-in-Ok
returns-in_err-listed-in-Ok g c =
    let l = groups_then c.args.book.now c.args.ticket (0 ∷ 0 ∷ 0 ∷ 0 ∷ []) c.groups-listed.new.list c.groups-listed.result c.requires refl c.groups-listed.ensures.lawful in
    absurd (false≢true (sym (ap is_ok c.in_err-listed-in-Ok.was) ∙ l.0))

pub returns : goal.returns
returns g c =
    let l = groups_then c.args.book.now c.args.ticket (0 ∷ 0 ∷ 0 ∷ 0 ∷ []) c.groups-listed.new.list c.groups-listed.result c.requires refl c.groups-listed.ensures.lawful in
    record { entries = l.1; released = refl; four_denied = c.once_returned-four_denied.ensures }
