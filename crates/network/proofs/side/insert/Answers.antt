use lib.Bits.{or_lt}
use Rattle.std.proofs.Common.{◌||◌, ap, ◌∙◌}
use Rattle.network.specs.Sides.{member}
use Rattle.network.proofs.Members.{member_or}
use Rattle.network.proofs.side.insert.Goals as goal

pub returns : goal.returns
returns c = simp (c.either.ensures) (record {
  places = λ i. member_or c.args.side c.alone.result i ∙ ap (λ t. member c.args.side i || t) (c.alone.ensures.places i);
  within = λ n s p. or_lt n c.args.side c.alone.result s (c.alone.ensures.within n p);
})
