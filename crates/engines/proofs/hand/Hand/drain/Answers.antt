use Rattle.std.proofs.Common.{ℕ, ◌<◌, length, ap, ◌∙◌, subst, arith}
use Rattle.engines.specs.Heights.{Preflow, left}
use Rattle.engines.proofs.Hands.{same_then}
use Rattle.engines.proofs.Pushes.{loaded}
use Rattle.engines.proofs.hand.Hand.drain.Goals as goal
use Rattle.engines.proofs.hand.Hand.drain.Goals.{After-step}

pub step-requires-clause-loaded : goal.step-requires-clause-loaded
step-requires-clause-loaded c = loaded c.steps.self c.in-Some.p c.steps.invariant.1 c.in-Some.ensures.active.3

stepped : (c : After-step) →
    Preflow c.steps.self.pair.net.lines.now c.step.new.self.marks.now c.step.new.self.work.now c.steps.self.pair.a c.steps.self.pair.b
    × (left (length c.steps.self.work.now) c.step.new.self.work.now < left (length c.steps.self.work.now) c.steps.self.work.now)
stepped c =
    let q = c.steps.self.pair in
    let at = c.in-Some.ensures.active in
    c.step.ensures.stepped q.a q.b (omega (arith, q.a_within, c.steps.self.kept)) at.1 at.2 c.steps.invariant.1

pub steps-preserved : goal.steps-preserved
steps-preserved c = (
  same_then c.args.self.now c.steps.self c.step.new.self c.steps.invariant.0 c.step.ensures.same,
  rw c.step.ensures.same.pair (stepped (goal.at.steps-preserved c).After-step).0,
)

pub steps-smaller : goal.steps-smaller
steps-smaller c =
    subst (λ (n : ℕ). left n c.step.new.self.work.now < left n c.steps.self.work.now) (c.steps.self.kept ∙ ap (λ q. q.net.sites) c.steps.invariant.0.pair)
    (stepped (goal.at.steps-smaller c).After-step).1
