use Rattle.std.proofs.Common.{◌≡◌, ◌-◌, suc, true, set, sym, ap, subst, arith}
use Rattle.network.specs.Lines.{line_at}
use Rattle.network.specs.Flow.{mark_at}
use Rattle.network.specs.Routes.{touches, other_end}
use Rattle.routes.specs.Walks.{Back, carriers}
use Rattle.routes.proofs.Steps.{back_start, underway_comes, step_back, step_fewer, comes_touching, comes_leading}
use Rattle.routes.proofs.Drawing.{to_spend}
use Rattle.routes.proofs.walking.walk.Goals as goal
use Rattle.routes.proofs.walking.walk.Goals.{After-source-before}

pub back-init : goal.back-init
back-init c = back_start c.args.pair.now c.args.left.now c.args.path.now

pub arriving-line-requires : goal.arriving-line-requires
arriving-line-requires c =
    let supplies = c.requires.supplies in
    let pair = c.args.pair.now in
    let v = supplies.most - 1 in
    underway_comes pair.net.lines.now c.back.left pair.a pair.b c.back.place v c.back-test.true
    (c.back.invariant.underway v (to_spend pair.net.lines.now c.args.left.now pair.a pair.b supplies.most (omega (arith, supplies.enough)) supplies.balanced))

-- the line that is taken out carried
fewer : (c : After-source-before) → carriers c.args.pair.now.net.lines.now c.back.left ≡ suc (carriers c.args.pair.now.net.lines.now (set c.back.left c.arriving-line.result 0))
fewer c =
    step_fewer c.args.pair.now c.args.left.now c.back.left c.back.place c.arriving-line.result c.back.path c.back.top
    c.arriving-line.ensures.inside (omega arith) c.arriving-line.ensures.comes c.back.invariant

pub extend-top-requires : goal.extend-top-requires
extend-top-requires c =
    let l = line_at c.args.pair.now.net.lines.now c.arriving-line.result in
    let m = mark_at c.back.left c.arriving-line.result in
    let apart = (c.args.pair.now.net.joined c.arriving-line.result c.arriving-line.ensures.inside).2 in
    let from = c.source-before.ensures in
    record {
      within = c.back.invariant.within;
      space = omega (arith, fewer (goal.at.extend-top-requires c).After-source-before, c.back.invariant.fewer, c.back.invariant.within, c.requires.space);
      inside = c.arriving-line.ensures.inside;
      touching = subst (λ x. touches l x ≡ true) (sym from) (comes_touching l m c.back.place c.arriving-line.ensures.comes);
      leading = subst (λ x. other_end l x ≡ c.back.place) (sym from)
          (comes_leading l m c.back.place apart c.arriving-line.ensures.comes);
      linked = c.back.invariant.led.chain;
    }

pub back-smaller : goal.back-smaller
back-smaller c = omega (arith, fewer (goal.at.back-smaller c).After-source-before, ap (carriers c.args.pair.now.net.lines.now) c.take_out.ensures)

pub back-preserved : goal.back-preserved
back-preserved c =
    let from = c.source-before.ensures in
    subst (λ ms. Back c.args.pair.now c.args.left.now ms c.source-before.result c.extend-top.new.path c.extend-top.result) (sym c.take_out.ensures)
    (subst (λ x. Back c.args.pair.now c.args.left.now (set c.back.left c.arriving-line.result 0) x c.extend-top.new.path c.extend-top.result) (sym from)
    (step_back c.args.pair.now c.args.left.now c.back.left c.back.place c.arriving-line.result c.back.path c.back.top
    c.arriving-line.ensures.inside (omega arith) c.arriving-line.ensures.comes c.back.invariant
    c.extend-top.new.path c.extend-top.result (omega arith) c.extend-top.ensures.within c.extend-top.ensures.longer
    (λ Q y q w. simp from at (c.extend-top.ensures.led Q y q w))))
