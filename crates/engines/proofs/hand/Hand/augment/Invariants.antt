use Rattle.std.proofs.Common.{◌≡◌}
use Rattle.engines.specs.Hands.{SameHand}
use Rattle.engines.specs.Search.{Walk, seen_at}
use Rattle.engines.proofs.hand.Hand.augment.Given as goal

abbrev pub invariant-back : goal.invariant-back
invariant-back l =
    let h = l.self in
    SameHand l.initial.self h × (h.work.now ≡ l.initial.self.work.now)
    × Walk h.pair.net.lines.now l.initial.self.marks.now h.marks.now h.work.now h.pair.a h.pair.b l.c

abbrev pub decreases-back : goal.decreases-back
decreases-back l = seen_at l.initial.self.work.now l.c
