use Rattle.std.proofs.Common.{eqb, arith}
use Rattle.network.proofs.Sums.{outs_le, ins_le}
use Rattle.routes.proofs.marking.Marking.balances.Goals as goal
use Rattle.routes.proofs.marking.Marking.balances.Goals.{then-place-pair, else-place-pair, then-place-pair-2, else-place-pair-2}

pub overflow_add-result : goal.overflow_add-result
overflow_add-result c =
    let net = c.args.pair.now.net in
    let few = net.few_lines in
    let most = outs_le (eqb c.args.place) net.lines.now c.args.self.now.marks.now in
    elim c.if-place-pair.branch [ then-place-pair w ↦ omega (arith, w.ended-is, most) | else-place-pair w ↦ omega (arith, w.ended-is, most) ]

pub overflow_add-result-2 : goal.overflow_add-result-2
overflow_add-result-2 c =
    let net = c.args.pair.now.net in
    let few = net.few_lines in
    let most = ins_le (eqb c.args.place) net.lines.now c.args.self.now.marks.now in
    elim c.if-place-pair-2.branch [ then-place-pair-2 w ↦ omega (arith, w.begun-is, most) | else-place-pair-2 w ↦ omega (arith, w.begun-is, most) ]
