use Rattle.std.proofs.Common.{◌≡◌, ℕ, length, sym, ◌∙◌, arith}
use Rattle.network.specs.Flow.{mark_at, Balanced}
use Rattle.engines.specs.Heights.{surplus_at, Preflow, Settled}
use Rattle.engines.specs.Search.{Stuck}
use Rattle.engines.proofs.Arcs.{joined_in}
use Rattle.engines.proofs.Cuts.{all_unused, answered}
use Rattle.engines.proofs.Accounts.{drained}
use Rattle.engines.proofs.Gaps.{stuck}
use Rattle.engines.proofs.Openings.{opening_none}
use Rattle.engines.proofs.push.PushMethod.run.Goals as goal

pub saturate-requires : goal.saturate-requires
saturate-requires c =
    let h = c.prepare.new.self in
    let unused : ((k : ℕ) → mark_at h.marks.now k ≡ 0) = rw c.prepare.ensures.marks (all_unused c.clear_marks.new.marks c.clear_marks.ensures) in
    record { begun = opening_none h.pair.net.lines.now h.marks.now h.work.now h.pair.a unused (rw c.prepare.ensures.same.pair c.prepare.ensures.fresh) }

pub returns-clause-flows : goal.returns-clause-flows
returns-clause-flows c =
    let h = c.drain.new.self in
    let q = h.pair in
    let ls = q.net.lines.now in
    let ms = h.marks.now in
    let ws = h.work.now in
    let after = c.search.new.self in
    let same = c.search.ensures.same.pair in
    let whole : after.pair ≡ c.args.hand.now.pair =
    same ∙ c.drain.ensures.same.pair ∙ c.saturate.ensures.same.pair ∙ c.prepare.ensures.same.pair in
    let in_a = q.a_within in
    let in_b = q.b_within in
    let ended : Preflow ls ms ws q.a q.b = rw c.drain.ensures.same.pair c.drain.ensures.ended in
    let settled : Settled ws q.a q.b = rw c.drain.ensures.same.pair c.drain.ensures.settled in
    let balanced : Balanced ls ms q.a q.b (surplus_at ws q.b) = drained ls ms ws q.a q.b (joined_in h) ended.account (omega (arith, h.kept)) (omega (arith, h.kept)) q.apart settled in
    let sized : length after.work.now ≡ length ws = rw (after.kept, same) (sym h.kept) in
    let unreached : Stuck ls ms after.work.now q.a q.b =
    stuck ls ms ws after.work.now q.a q.b sized (joined_in h) (omega (arith, h.kept)) (omega (arith, h.kept)) ended c.search.result c.search.ensures.found in
    rw (← whole)
    (answered after c.args.hand.now.marks.now _ c.side_seen.result (rw whole c.args.hand.now.marked)
    (rw (same, c.search.ensures.marks) ended.marked) (rw (same, c.search.ensures.marks) balanced) (rw (same, c.search.ensures.marks) unreached)
    c.side_seen.ensures.within c.side_seen.ensures.places)
