use Rattle.std.proofs.Common.{arith}
use Rattle.network.proofs.Digits.{lowest_trailing}
use Rattle.network.proofs.side.lowest.Goals as goal

pub returns : goal.returns
returns c = lowest_trailing 64 c.args.side (omega arith) (omega arith)
