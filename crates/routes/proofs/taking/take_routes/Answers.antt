use Rattle.std.proofs.Common.{arith}
use Rattle.routes.proofs.Balances.{ready_sized}
use Rattle.routes.proofs.taking.take_routes.Goals as goal

pub choose-top-requires-clause-space : goal.choose-top-requires-clause-space
choose-top-requires-clause-space c =
    let m = c.args.marking.now in
    let pair = c.in_ok-pair.pair in
    let sized = ready_sized pair m.marks.now m.value c.args.k c.in_ok-pair.ensures.ready in
    omega (arith, sized.enough, sized.small, pair.net.few_lines)
