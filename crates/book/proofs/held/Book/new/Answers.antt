use Rattle.std.proofs.Common.{sym, ◌∙◌, arith, rules}
use Rattle.network.specs.Groups.{tally}
use Rattle.book.specs.Tables.{total_shown, total_held, sound}
use Rattle.book.proofs.held.Book.new.Goals as goal

pub invariant_of-result-clause-parted : goal.invariant_of-result-clause-parted
unfolding total_held tally
invariant_of-result-clause-parted g c = search rules

pub invariant_of-result-clause-totals : goal.invariant_of-result-clause-totals
unfolding total_shown
invariant_of-result-clause-totals g c = search rules

pub invariant_of-result-clause-rises : goal.invariant_of-result-clause-rises
unfolding sound
invariant_of-result-clause-rises g c = search rules

pub invariant_of-result-clause-given : goal.invariant_of-result-clause-given
unfolding tally
invariant_of-result-clause-given g c = search rules

pub invariant_of-result-clause-spans : goal.invariant_of-result-clause-spans
invariant_of-result-clause-spans g c = c.empty.ensures.none ∙ sym c.in_ok-sites.ensures.len

pub invariant_of-result-clause-tells : goal.invariant_of-result-clause-tells
invariant_of-result-clause-tells g c = λ l. absurd (omega (arith, l, c.in_ok-sites.ensures.len))
