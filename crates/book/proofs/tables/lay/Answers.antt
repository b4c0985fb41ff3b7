use Rattle.std.proofs.Common.{◌<◌, length, vec_items, vec_len, vec_capacity, Some, None, ap, ◌∙◌, arith}
use Rattle.book.proofs.Laying.{laid_more, laid_there}
use Rattle.book.proofs.tables.lay.Goals as goal
use Rattle.book.proofs.tables.lay.Goals.{in-Some, in_default}

pub lay-preserved : goal.lay-preserved
lay-preserved g c =
    elim c.match-at.branch [
      | in-Some w ↦ (
        ap vec_capacity w.list-is ∙ w.push_reserved.ensures.capacity ∙ c.lay.invariant.0,
        omega (arith, ap vec_len w.list-is, w.push_reserved.ensures.len, c.lay.invariant.1),
        λ xs size gives.
            let inside : c.lay.i < length xs = omega (arith, size, c.lay-test.true) in
            laid_more xs (vec_items c.lay.list) (vec_items c.match-at.list) c.lay.i w.in-Some.x inside (c.lay.invariant.2 xs size gives)
            (gives c.lay.i (Some w.in-Some.x) inside w.in-Some.ensures) (ap vec_items w.list-is ∙ w.push_reserved.ensures.items),
      )
      | in_default w ↦ (
        ap vec_capacity w.list-is ∙ c.lay.invariant.0,
        omega (arith, ap vec_len w.list-is, c.lay.invariant.1),
        λ xs size gives.
            let inside : c.lay.i < length xs = omega (arith, size, c.lay-test.true) in
            absurd (laid_there xs c.lay.i inside (gives c.lay.i None inside w.in_default.ensures)),
      )
    ]
