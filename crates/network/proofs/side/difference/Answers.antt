use Rattle.std.proofs.Common.{ap, ◌∙◌, arith}
use lib.Bits.{and_le_l}
use Rattle.std.proofs.Common.{◌-◌, ◌^◌}
use Rattle.network.specs.Sides.{member}
use Rattle.network.proofs.Digits.{member_without}
use Rattle.network.proofs.side.difference.Goals as goal

pub returns : goal.returns
returns c = record {
  places = λ i. ap (λ r. member r i) c.without.ensures ∙ member_without c.args.side c.args.other i (omega arith) (omega arith);
  within = omega (arith, c.without.ensures, and_le_l c.args.side (2 ^ 64 - 1 - c.args.other));
}
