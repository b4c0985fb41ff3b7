use Rattle.std.proofs.Common.{◌-◌, length}
use Rattle.network.specs.Answers.{Carries}
use Rattle.engines.specs.Hands.{SameHand}
use Rattle.engines.proofs.shortest.ShortestRouteMethod.run.Given as goal

abbrev pub invariant-units : goal.invariant-units
invariant-units l =
    let q = l.fn.hand.pair in
    SameHand l.fn.hand l.hand × Carries q.net.lines.now l.hand.marks.now q.a q.b l.value

abbrev pub decreases-units : goal.decreases-units
decreases-units l = length l.fn.hand.pair.net.lines.now - l.value
