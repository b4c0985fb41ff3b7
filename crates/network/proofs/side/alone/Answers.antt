use lib.Pow.{pow-lt}
use Rattle.std.proofs.Common.{ap, ◌∙◌, arith}
use Rattle.network.specs.Sides.{member}
use Rattle.network.proofs.Digits.{member_alone}
use Rattle.network.proofs.side.alone.Goals as goal

pub returns-then-place-lt64-clause-places : goal.returns-then-place-lt64-clause-places
returns-then-place-lt64-clause-places c i = ap (λ r. member r i) c.single.ensures ∙ member_alone c.args.place i (omega arith)

pub returns-then-place-lt64-clause-within : goal.returns-then-place-lt64-clause-within
returns-then-place-lt64-clause-within c n p = rw c.single.ensures (pow-lt p)
