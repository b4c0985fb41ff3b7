use Rattle.std.proofs.Common.{◌≡◌, ℕ, length, drop, ap, ◌∙◌, arith}
use Rattle.network.specs.Lines.{line_at}
use Rattle.network.specs.Routes.{other_end}
use Rattle.routes.proofs.Ways.{scan_inside, scan_more, scan_met, scan_none}
use Rattle.routes.proofs.walking.find_stop.Goals as goal

pub returns-then-stop-place : goal.returns-then-stop-place
returns-then-stop-place c = (
  omega arith,
  scan_met c.args.lines.now c.args.start c.args.place c.args.chain.now c.loop-i.stop (drop c.loop-i.i c.args.chain.now) c.if-stop-place.true c.loop-i.invariant,
)

pub bounds-lines-from : goal.bounds-lines-from
bounds-lines-from c =
    rw c.from.ensures (scan_inside c.args.lines.now c.args.start c.args.place c.args.chain.now c.loop-i.stop c.args.chain.now c.loop-i.i (omega arith) c.loop-i.invariant)

pub loop-i-preserved : goal.loop-i-preserved
loop-i-preserved c =
    scan_more c.args.lines.now c.args.start c.args.place c.args.chain.now c.loop-i.stop c.far_end-stop.result c.args.chain.now c.loop-i.i (omega arith)
    c.if-stop-place.false (c.far_end-stop.ensures ∙ ap (λ (p : ℕ). other_end (line_at c.args.lines.now p) c.loop-i.stop) c.from.ensures) c.loop-i.invariant

pub returns-then-stop-place-2 : goal.returns-then-stop-place-2
returns-then-stop-place-2 c = (
  omega arith,
  scan_met c.args.lines.now c.args.start c.args.place c.args.chain.now c.loop-i.stop (drop (length c.args.chain.now) c.args.chain.now) c.if-stop-place-2.true
      (let e : c.loop-i.i ≡ length c.args.chain.now = omega arith in simp e at c.loop-i.invariant),
)

pub returns-else-stop-place-2 : goal.returns-else-stop-place-2
returns-else-stop-place-2 c =
    scan_none c.args.lines.now c.args.start c.args.place c.args.chain.now c.loop-i.stop c.args.chain.now c.loop-i.i (omega arith) c.if-stop-place-2.false c.loop-i.invariant
