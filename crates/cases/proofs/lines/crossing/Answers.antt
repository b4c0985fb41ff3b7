use Rattle.std.proofs.Common.{rules}
use Rattle.network.specs.Cuts.{crossing_by}
use Rattle.cases.proofs.lines.crossing.Goals as goal

pub returns : goal.returns
unfolding crossing_by
returns c = search rules
