use Rattle.std.proofs.Common.{refl, rules}
use borrow.Author.Tests.{tests}
use Rattle.std.proofs.lemmas.Iterator.{cases_from_all, YieldsList-from_range}
use Rattle.routes.specs.Shapes.{BalancedAt}
use Rattle.routes.proofs.Balances.{balanced_decided}
use Rattle.routes.proofs.marking.Marking.all_balance.Goals as goal

pub returns : goal.returns
returns c =
    let pair = c.args.pair.now in
    let net = pair.net in
    let m = c.args.self.now in
    balanced_decided net.sites net.lines.now m.marks.now pair.a pair.b m.value net.joined pair.a_within pair.b_within c.all.result
    (cases_from_all _ _ c.all.result (BalancedAt net.lines.now m.marks.now pair.a pair.b m.value) (λ p. BalancedAt net.lines.now m.marks.now pair.a pair.b m.value p → ⊥)
    c.all.ensures.ran (YieldsList-from_range 0 net.sites net.sites refl (search rules)) (λ x q k. search (rules, tests)) (λ x q k. search (rules, tests)))
