use Rattle.std.proofs.Common.{◌∙◌, arith}
use Rattle.network.proofs.Digits.{size_ones}
use Rattle.network.proofs.side.size.Goals as goal

pub returns : goal.returns
returns c = c.count_set.ensures ∙ size_ones 64 c.args.side (omega arith)
