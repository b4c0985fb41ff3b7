use Rattle.std.proofs.Common.{refl, arith}
use Rattle.network.proofs.Digits.{size_ones}
use Rattle.book.proofs.fault.CutFromFlow.from.Goals as goal

pub returns : goal.returns
returns c = (refl, refl, size_ones 64 c.args.flow.side (omega arith))
