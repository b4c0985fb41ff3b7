use Rattle.std.proofs.Common.{◌≡◌, ℕ, ◌<◌, false}
use Rattle.engines.specs.Hands.{SameHand}
use Rattle.engines.specs.Search.{Round}
use Rattle.engines.proofs.hand.Hand.scan_round.Given as goal

abbrev pub invariant-loop-k : goal.invariant-loop-k
invariant-loop-k l =
    let h = l.initial.self in
    let ls = h.pair.net.lines.now in
    let ms = h.marks.now in
    SameHand h l.self × (l.self.marks.now ≡ ms)
    × ((a : ℕ) → Round ls ms a l.layer false (λ k e. ⊥) h.work.now → Round ls ms a l.layer l.found (λ k e. k < l.k) l.self.work.now)
    × (l.found ≡ false → l.self.work.now ≡ h.work.now)
