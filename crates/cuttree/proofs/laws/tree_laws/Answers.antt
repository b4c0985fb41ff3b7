use Rattle.cuttree.proofs.AnyCount.{step, lightest_is_least}
use Rattle.cuttree.proofs.laws.tree_laws.Goals as goal

pub returns : goal.returns
returns c = record { step = step; tree = lightest_is_least }
