use Rattle.std.proofs.Common.{ℕ, rules}
use borrow.Author.Tests.{tests}
use Rattle.std.proofs.lemmas.Iterator.{cases_from_all, YieldsList-from_slice, YieldsList-from_zip}
use Rattle.std.proofs.lemmas.Iterator.Consumers.{YieldsList-at}
use Rattle.network.specs.declared.line.Line.{Line}
use Rattle.network.specs.Flow.{Marked}
use Rattle.routes.proofs.Balances.{marked_decided}
use Rattle.routes.proofs.marking.Marking.all_marked.Goals as goal

pub returns : goal.returns
returns c =
    let lines = c.args.lines.now in
    let m = c.args.self.now in
    marked_decided lines m.marks.now c.all.result
    (cases_from_all c.all.new.self _ c.all.result (λ (p : Line × ℕ). Marked p.0 p.1) (λ (p : Line × ℕ). Marked p.0 p.1 → ⊥)
    c.all.ensures.ran (YieldsList-from_zip (YieldsList-at c.zip.ensures.first (YieldsList-from_slice lines (cc))) (YieldsList-from_slice m.marks.now (cc)))
    (λ x q k. search (rules, tests)) (λ x q k. search (rules, tests)))
