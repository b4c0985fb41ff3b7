use Rattle.engines.specs.Hands.{SameHand}
use Rattle.engines.specs.Heights.{Opening}
use Rattle.engines.proofs.hand.Hand.saturate.Given as goal

abbrev pub invariant-loop-k : goal.invariant-loop-k
invariant-loop-k l = SameHand l.initial.self l.self × Opening l.self.pair.net.lines.now l.self.marks.now l.self.work.now l.self.pair.a l.k
