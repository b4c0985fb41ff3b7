use Rattle.engines.specs.Heights.{Sends}
use Rattle.engines.proofs.Arcs.{joined_in, over_by}
use Rattle.engines.proofs.Hands.{same_then}
use Rattle.engines.proofs.Openings.{opening_loaded, opening_more}
use Rattle.engines.proofs.hand.Hand.saturate.Goals as goal

pub try_send-requires-clause-loaded : goal.try_send-requires-clause-loaded
try_send-requires-clause-loaded c =
    rw (← c.loop-k.invariant.0.pair) (opening_loaded c.loop-k.self c.loop-k.k c.loop-k.invariant.1 (rw c.loop-k.invariant.0.pair c.loop-k-test.true))

pub loop-k-preserved : goal.loop-k-preserved
loop-k-preserved c =
    let h = c.loop-k.self in
    let same = c.loop-k.invariant.0 in
    let new = c.try_send.new.self in
    let sends = over_by (λ k e. Sends h.pair.net.lines.now h.marks.now h.work.now new.marks.now new.work.now c.args.self.now.pair.a k e c.try_send.result)
    c.over.result c.loop-k.k _ c.over.ensures c.try_send.ensures.sends in (
      same_then c.args.self.now h new same c.try_send.ensures.same,
      rw c.try_send.ensures.same.pair
          (opening_more h.pair.net.lines.now h.marks.now h.work.now h.pair.a c.loop-k.k h.marked (joined_in h) (rw same.pair c.loop-k-test.true) c.loop-k.invariant.1
          new.marks.now new.work.now c.try_send.result (rw same.pair (rw same.pair at sends))),
    )
