use Rattle.std.proofs.Common.{◌≡◌, ◌-◌, false}
use Rattle.engines.specs.Hands.{SameHand}
use Rattle.engines.specs.Search.{seen_at, Round}
use Rattle.engines.proofs.hand.Hand.search.Given as goal

abbrev pub invariant-rounds : goal.invariant-rounds
invariant-rounds l =
    let h = l.fn.self in
    SameHand h l.self × (l.self.marks.now ≡ h.marks.now)
    × Round h.pair.net.lines.now h.marks.now h.pair.a l.layer false (λ k e. ⊥) l.self.work.now
    × (seen_at l.self.work.now h.pair.b ≡ 0)

abbrev pub decreases-rounds : goal.decreases-rounds
decreases-rounds l = l.fn.self.pair.net.sites - l.layer
