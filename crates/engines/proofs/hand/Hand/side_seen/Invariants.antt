use Rattle.std.proofs.Common.{◌≡◌, ℕ, ◌^◌, ◌<◌, not, ◌&&◌, eqb, ltb, length}
use Rattle.network.specs.Sides.{member}
use Rattle.engines.specs.Search.{seen_at}
use Rattle.engines.proofs.hand.Hand.side_seen.Given as goal

abbrev pub invariant-loop-p : goal.invariant-loop-p
invariant-loop-p l =
    (l.side < 2 ^ length l.self.work.now)
    × ((q : ℕ) → member l.side q ≡ (ltb q l.p && not (eqb (seen_at l.self.work.now q) 0)))
