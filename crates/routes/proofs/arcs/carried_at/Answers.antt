use Rattle.std.proofs.Common.{ℕ, eqb, ◌∙◌, rules}
use borrow.Author.Tests.{tests}
use Rattle.std.specs.List.{zip}
use Rattle.std.proofs.lemmas.Iterator.{YieldsList-from_slice, YieldsList-from_zip}
use Rattle.std.proofs.lemmas.Iterator.Consumers.{YieldsList-at, YieldsList-from_filter, count_from_yields_List}
use Rattle.std.proofs.lemmas.List.Sums.{length-filter}
use Rattle.network.specs.declared.line.Line.{Line}
use Rattle.routes.specs.Ends.{counts_at}
use Rattle.routes.proofs.Balances.{carried_is}
use Rattle.routes.proofs.arcs.carried_at.Goals as goal

pub returns : goal.returns
returns c =
    count_from_yields_List c.filter.result _ c.count.ensures.ran
    (YieldsList-from_filter _ (λ (p : Line × ℕ). eqb (counts_at c.args.end (eqb c.args.place) p.0 p.1) 1)
    (YieldsList-at c.filter.ensures.source (YieldsList-from_zip (YieldsList-at c.zip.ensures.first (YieldsList-from_slice c.args.lines.now (cc))) (YieldsList-from_slice c.args.marks.now (cc))))
    c.filter.ensures.closure (λ x r q k. search (rules, tests)))
    ∙ length-filter (λ (p : Line × ℕ). eqb (counts_at c.args.end (eqb c.args.place) p.0 p.1) 1) (zip c.args.lines.now c.args.marks.now)
    ∙ carried_is c.args.end c.args.place c.args.lines.now c.args.marks.now
