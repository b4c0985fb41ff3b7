use Rattle.std.proofs.Common.{ℕ, set, vec_items, vec_len, vec_capacity, ap, ◌∙◌, arith}
use Rattle.network.specs.declared.line.LineState.TheVariants.{Held}
use Rattle.network.specs.Lines.{line_at}
use Rattle.book.specs.Ledger.{with_state}
use Rattle.book.proofs.Listings.{giving_count, giving_line, giving_inside, giving_all}
use Rattle.book.proofs.tables.hold.Goals as goal
use Rattle.book.proofs.tables.hold.Goals.{in_default, in-Position}

pub give-requires : goal.give-requires
give-requires c =
    let inside = giving_inside c.args.number (vec_len c.args.lines.now) c.args.listed.now (vec_items c.args.lines.now) c.give.reading.left c.give.x-index (vec_items c.give.lines) c.give.invariant.2
    c.give-test.true c.read.new.self.left c.in-Position.at c.in-Position.ensures in
    omega (arith, inside, c.from.ensures, c.give.invariant.0)

pub give-preserved : goal.give-preserved
give-preserved c =
    let n = c.args.number in let m = vec_len c.args.lines.now in let xs = c.args.listed.now in let start = vec_items c.args.lines.now in
    let now = vec_items c.give.lines in let left = c.give.reading.left in let left' = c.read.new.self.left in
    elim c.match-read.branch [
      | in_default w ↦ rw w.lines-is (
        c.give.invariant.0,
        c.give.invariant.1,
        giving_count n m xs start left c.give.x-index now c.give.invariant.2 c.give-test.true left' _ w.in_default.ensures,
      )
      | in-Position w ↦ (
        ap vec_len w.lines-is ∙ w.give-in-Position.ensures.len ∙ c.give.invariant.0,
        ap vec_capacity w.lines-is ∙ w.give-in-Position.ensures.capacity ∙ c.give.invariant.1,
        giving_line n m xs start left c.give.x-index now c.give.invariant.2 c.give-test.true left' w.in-Position.at (vec_items c.match-read.lines)
            w.in-Position.ensures (ap vec_items w.lines-is ∙ w.give-in-Position.ensures.items ∙ ap (λ (p : ℕ). set now p (with_state (Held n) (line_at now p))) w.from.ensures),
      )
    ]

pub returns-clause-items : goal.returns-clause-items
returns-clause-items c =
    giving_all c.args.number (vec_len c.args.lines.now) c.args.listed.now (vec_items c.args.lines.now) c.give.reading.left c.give.x-index (vec_items c.give.lines)
    c.give.invariant.2 c.give-test.false
