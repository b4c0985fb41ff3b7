use Rattle.std.proofs.Common.{ap, ◌∙◌}
use Rattle.network.specs.Sides.{member}
use Rattle.network.proofs.Members.{member_and}
use Rattle.network.proofs.side.intersection.Goals as goal

pub returns-clause-places : goal.returns-clause-places
returns-clause-places c i = ap (λ r. member r i) c.both.ensures ∙ member_and c.args.side c.args.other i
