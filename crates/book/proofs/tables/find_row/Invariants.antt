use Rattle.book.proofs.Seeking.{Sought}
use Rattle.book.proofs.tables.find_row.Given as goal

abbrev pub invariant-seek : goal.invariant-seek
invariant-seek l = Sought l.rows l.number l.row l.from
