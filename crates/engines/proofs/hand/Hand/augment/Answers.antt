use Rattle.std.proofs.Common.{◌<◌, ◌∙◌}
use Rattle.engines.specs.Search.{Walk, seen_at}
use Rattle.engines.proofs.Hands.{same_then}
use Rattle.engines.proofs.Walks.{walk_step}
use Rattle.engines.proofs.hand.Hand.augment.Goals as goal
use Rattle.engines.proofs.hand.Hand.augment.Goals.{After-step_back-c}

stepped : (c : After-step_back-c) →
    Walk c.back.self.pair.net.lines.now c.args.self.now.marks.now c.step_back-c.new.self.marks.now c.back.self.work.now c.back.self.pair.a c.back.self.pair.b c.step_back-c.result
    × (seen_at c.back.self.work.now c.step_back-c.result < seen_at c.back.self.work.now c.back.c)
stepped c =
    walk_step c.back.self c.args.self.now.marks.now c.step_back-c.new.self.marks.now c.back.c c.step_back-c.result
    c.back.invariant.2 c.back-test.true c.step_back-c.ensures.place c.step_back-c.ensures.after

pub back-preserved : goal.back-preserved
back-preserved c =
    let new = c.step_back-c.ensures in (
      same_then c.args.self.now c.back.self c.step_back-c.new.self c.back.invariant.0 new.same,
      new.work ∙ c.back.invariant.1,
      rw (new.same.pair, new.work) (stepped (goal.at.back-preserved c).After-step_back-c).0,
    )
