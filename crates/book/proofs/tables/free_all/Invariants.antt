use Rattle.std.proofs.Common.{◌≡◌, ℕ, ◌<◌, ◌≤◌, cond}
use Rattle.network.specs.declared.line.LineState.TheVariants.{Free}
use Rattle.network.specs.Lines.{line_at}
use Rattle.book.specs.Ledger.{with_state}
use Rattle.book.specs.Tables.{held_by}
use Rattle.book.proofs.tables.free_all.Given as goal

abbrev pub invariant-free : goal.invariant-free
invariant-free l =
    ((p : ℕ) → p < l.line-index → line_at l.line-items p ≡ cond (held_by l.number (line_at l.initial.line-items p).state) (with_state Free (line_at l.initial.line-items p)) (line_at l.initial.line-items p))
    × ((p : ℕ) → l.line-index ≤ p → line_at l.line-items p ≡ line_at l.initial.line-items p)
