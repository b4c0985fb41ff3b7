use Rattle.std.proofs.Common.{◌∙◌, arith}
use Rattle.std.proofs.lemmas.List.{length-take}
use Rattle.engines.proofs.Cuts.{widened}
use Rattle.engines.proofs.task.answer.Goals as goal

pub returns : goal.returns
returns g c =
    let task = c.in_ok-pair.ensures.taken in
    let room = task.marks_room in
    widened c.in_ok-pair.pair _ _ _ _ _ _ _ c.args.work.now c.args.work.now c.start.result task (c.start.auto.marks ∙ simp length-take (omega arith))
    c.in_ok-pair.ensures.asked c.start.ensures
