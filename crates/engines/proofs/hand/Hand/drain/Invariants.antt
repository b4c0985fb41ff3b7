use Rattle.engines.specs.Hands.{SameHand}
use Rattle.engines.specs.Heights.{Preflow, left}
use Rattle.engines.proofs.hand.Hand.drain.Given as goal

abbrev pub invariant-steps : goal.invariant-steps
invariant-steps l =
    let q = l.self.pair in
    SameHand l.initial.self l.self × Preflow q.net.lines.now l.self.marks.now l.self.work.now q.a q.b

abbrev pub decreases-steps : goal.decreases-steps
decreases-steps l = left l.initial.self.pair.net.sites l.self.work.now
