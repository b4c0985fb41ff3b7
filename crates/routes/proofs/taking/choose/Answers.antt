use Rattle.std.proofs.Common.{sym, subst}
use Rattle.routes.specs.Walks.{Supplies}
use Rattle.routes.proofs.Choosing.{front_supplies, drawn_chosen}
use Rattle.routes.proofs.taking.choose.Goals as goal

pub draw-requires-clause-supplies : goal.draw-requires-clause-supplies
draw-requires-clause-supplies c =
    subst (λ ms. Supplies c.args.pair.now ms c.args.k) (sym c.copy_from_slice.ensures.after)
    (front_supplies c.args.pair.now c.args.marks.now c.requires.ready.0 c.args.k c.requires.ready.1)

pub returns-clause-chosen : goal.returns-clause-chosen
returns-clause-chosen c =
    let rs = c.draw.ensures.0 in (
      rs,
      drawn_chosen c.args.pair.now c.args.marks.now c.requires.ready.0 c.args.k c.requires.ready.1 _ c.draw.new.left rs c.draw.new.store c.draw.result
          c.copy_from_slice.ensures.after c.draw.ensures.1,
      c.draw.ensures.1.stands,
    )
