use Rattle.std.proofs.Common.{◌≡◌}
use Rattle.engines.specs.Hands.{SameHand}
use Rattle.engines.specs.Heights.{Level}
use Rattle.engines.proofs.hand.Hand.push_from.Given as goal

abbrev pub invariant-loop-k : goal.invariant-loop-k
invariant-loop-k l =
    let h = l.initial.self in
    SameHand h l.self × (l.self.marks.now ≡ h.marks.now) × (l.self.work.now ≡ h.work.now) × Level h.pair.net.lines.now h.marks.now h.work.now l.p l.k
