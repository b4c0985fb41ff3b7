use Rattle.std.proofs.Common.{◌≡◌, ◌+◌, ◌-◌, ◌<◌, ◌≤◌, [], ◌∷◌, length, drop, refl, ◌∙◌, arith}
use Rattle.std.proofs.lemmas.List.{length-take, length-append}
use Rattle.routes.proofs.Drawing.{drawn_none, drawn_room, drawn_count, drawn_by, supplies_fewer, supplies_after}
use Rattle.routes.proofs.taking.draw.Goals as goal
use Rattle.routes.proofs.taking.draw.Goals.{After-walk-start}

pub loop-done-init : goal.loop-done-init
loop-done-init c = (
  ([], drawn_none c.args.pair.now c.args.left.now c.args.store.now),
  supplies_fewer c.args.pair.now c.args.left.now c.args.k (c.args.k - 0) (omega arith) c.requires.supplies,
)

size : (c : After-walk-start) → length c.walk-start.new.path ≡ c.loop-done.top
size c = c.walk-start.auto.path ∙ simp length-take (omega (arith, c.loop-done.invariant.0.1.within))

room : (c : After-walk-start) → 0 < c.walk-start.result
room c =
    drawn_room c.args.pair.now c.args.left.now c.loop-done.left c.walk-start.new.left c.loop-done._done
    c.loop-done.invariant.0.0 c.loop-done.store c.loop-done.top c.walk-start.new.path c.walk-start.result c.loop-done.invariant.0.1 c.walk-start.ensures (size c)
    (omega (arith, c.requires.space))

count : (c : After-walk-start) → c.loop-done.top - c.walk-start.result ≤ length c.args.pair.now.net.lines.now
count c =
    drawn_count c.args.pair.now c.args.left.now c.loop-done.left c.walk-start.new.left c.loop-done._done
    c.loop-done.invariant.0.0 c.loop-done.store c.loop-done.top c.walk-start.new.path c.walk-start.result c.loop-done.invariant.0.1 c.walk-start.ensures (size c)

pub put_count-top-requires : goal.put_count-top-requires
put_count-top-requires c =
    let here = (goal.at.put_count-top-requires c).After-walk-start in
    record {
      some = room here;
      order = omega (arith, c.walk-start.ensures.within, size here);
      within = simp length-append (omega (arith, size here));
      few = omega (arith, count here, c.args.pair.now.net.few_lines);
    }

pub loop-done-preserved : goal.loop-done-preserved
loop-done-preserved c =
    let here = (goal.at.loop-done-preserved c).After-walk-start in
    let rs = drop c.walk-start.result c.walk-start.new.path ∷ c.loop-done.invariant.0.0 in (
      (
        rs,
        drawn_by c.args.pair.now c.args.left.now c.loop-done.left c.walk-start.new.left c.loop-done._done
            c.loop-done.invariant.0.0 c.loop-done.store c.loop-done.top c.walk-start.new.path c.walk-start.result c.loop-done.invariant.0.1 c.walk-start.ensures (size here)
            c.loop-done.top c.put_count-top.new.store c.put_count-top.result refl (room here) c.put_count-top.ensures.after c.put_count-top.ensures.place,
      ),
      supplies_fewer c.args.pair.now c.walk-start.new.left (c.args.k - c.loop-done._done - 1) (c.args.k - (c.loop-done._done + 1)) (omega arith)
          (supplies_after c.args.pair.now c.loop-done.left c.walk-start.new.left (c.args.k - c.loop-done._done) c.walk-start.new.path c.walk-start.result
          (omega arith) c.walk-start.auto.left c.loop-done.invariant.1 c.walk-start.ensures),
    )
