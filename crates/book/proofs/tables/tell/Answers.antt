use Rattle.std.proofs.Common.{ℕ, [], ◌∷◌, ◌++◌, vec_items, ap, ◌∙◌, arith}
use Rattle.network.specs.Routes.{number_at}
use Rattle.book.proofs.Listings.{telling_count, telling_line, telling_inside, telling_all}
use Rattle.book.proofs.tables.tell.Goals as goal
use Rattle.book.proofs.tables.tell.Goals.{in-Count, in-Position}

pub bounds-lines-from : goal.bounds-lines-from
bounds-lines-from c =
    let inside = telling_inside c.args.lines.now c.args.listed.now (vec_items c.args.shown.now) c.write.reading.left c.write.x-index (vec_items c.write.shown) c.write.invariant.2
    c.write-test.true c.read.new.self.left c.in-Position.at c.in-Position.ensures in
    omega (arith, inside, c.from.ensures)

pub write-preserved : goal.write-preserved
write-preserved c =
    let ls = c.args.lines.now in let xs = c.args.listed.now in let start = vec_items c.args.shown.now in
    let now = vec_items c.write.shown in let after = vec_items c.push_reserved.new.self in (
      omega (arith, c.push_reserved.ensures.len, c.write.invariant.0),
      c.push_reserved.ensures.capacity ∙ c.write.invariant.1,
      elim c.match-read.branch [
        | in-Count w ↦
            telling_count ls xs start c.write.reading.left c.write.x-index now c.write.invariant.2 c.write-test.true c.read.new.self.left w.in-Count.count after
            w.in-Count.ensures (c.push_reserved.ensures.items ∙ ap (λ (y : ℕ). now ++ y ∷ []) w.push_reserved-is)
        | in-Position w ↦
            telling_line ls xs start c.write.reading.left c.write.x-index now c.write.invariant.2 c.write-test.true c.read.new.self.left w.in-Position.at after
            w.in-Position.ensures (c.push_reserved.ensures.items ∙ ap (λ (y : ℕ). now ++ y ∷ []) (w.push_reserved-is ∙ ap (number_at ls) w.from.ensures))
      ],
    )

pub returns-clause-items : goal.returns-clause-items
returns-clause-items c =
    telling_all c.args.lines.now c.args.listed.now (vec_items c.args.shown.now) c.write.reading.left c.write.x-index (vec_items c.write.shown) c.write.invariant.2 c.write-test.false
