use Rattle.std.proofs.Common.{refl}
use Rattle.cases.specs.File.{worked_file}
use Rattle.cases.proofs.calls.worked_bytes.Goals as goal

pub returns : goal.returns
unfolding worked_file
returns c = refl
