use Rattle.engines.proofs.Pushes.{step_pushed, step_raised}
use Rattle.engines.proofs.hand.Hand.step.Goals as goal

pub returns-else-not-push_from-clause-stepped : goal.returns-else-not-push_from-clause-stepped
returns-else-not-push_from-clause-stepped c =
    step_pushed c.args.self.now c.args.p c.requires.loaded.has
    c.push_from.new.self.marks.now c.push_from.new.self.work.now c.if-not-push_from.ensures.tried

pub returns-then-not-push_from-clause-stepped : goal.returns-then-not-push_from-clause-stepped
returns-then-not-push_from-clause-stepped c =
    step_raised c.args.self.now c.args.p c.requires.loaded.has
    c.push_from.new.self.marks.now c.push_from.new.self.work.now c.raise.new.work c.requires.within c.if-not-push_from.ensures.tried c.raise.ensures
