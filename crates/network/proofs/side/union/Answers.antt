use Rattle.std.proofs.Common.{ap, ◌∙◌}
use Rattle.network.specs.Sides.{member}
use Rattle.network.proofs.Members.{member_or}
use Rattle.network.proofs.side.union.Goals as goal

pub returns-clause-places : goal.returns-clause-places
returns-clause-places c i = ap (λ r. member r i) c.either.ensures ∙ member_or c.args.side c.args.other i
