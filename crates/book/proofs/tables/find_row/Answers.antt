use Rattle.std.proofs.Common.{arith, rules}
use Rattle.std.proofs.lemmas.Bool.{eq-eqb, ne_eqb}
use Rattle.book.proofs.Seeking.{sought_more, sought_found, sought_none, sought_within}
use Rattle.book.proofs.tables.find_row.Goals as goal

pub returns-then-booking-number : goal.returns-then-booking-number
returns-then-booking-number c =
    sought_found c.args.rows.now c.args.number c.seek.row c.seek.from c.seek.invariant (search rules) (eq-eqb _ _ (search rules))

pub overflow_add-from : goal.overflow_add-from
overflow_add-from c =
    let f = sought_within c.args.rows.now c.args.number c.seek.row c.seek.from c.seek.invariant (search rules) in omega (arith, f, c.requires)

pub seek-preserved : goal.seek-preserved
seek-preserved c =
    sought_more c.args.rows.now c.args.number c.seek.row c.seek.from c.seek.invariant (search rules) (ne_eqb _ _ (search rules))

pub returns : goal.returns
returns c = sought_none c.args.rows.now c.args.number c.seek.row c.seek.from c.seek.invariant (omega arith)
