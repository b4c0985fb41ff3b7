use Rattle.std.proofs.Common.{◌∙◌}
use Rattle.std.proofs.lemmas.Bool.{both_ways}
use Rattle.routes.proofs.Balances.{ready_sized}
use Rattle.routes.proofs.marking.Marking.is_ready.Goals as goal
use Rattle.routes.proofs.marking.Marking.is_ready.Goals.{then-is_sized, else-is_sized}

pub returns-else-all_marked : goal.returns-else-all_marked
returns-else-all_marked c =
    let m = c.args.self.now in (
      λ e. absurd (both_ways c.if-is_sized.value c.if-all_marked.false e),
      λ ready. elim c.if-is_sized.branch [
        | then-is_sized w ↦ w.value-is ∙ w.all_marked.ensures.1 ready.carried.marked
        | else-is_sized w ↦ absurd (both_ways c.is_sized.result w.if-is_sized.false
            (c.is_sized.ensures.1 (ready_sized c.args.pair.now m.marks.now m.value c.args.k ready)))
      ],
    )
