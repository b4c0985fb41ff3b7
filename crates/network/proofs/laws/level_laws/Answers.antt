use Rattle.network.proofs.Levels.{level_le, level_comm}
use Rattle.network.proofs.Parting.{attained, by_third, submodular_sides}
use Rattle.network.proofs.laws.level_laws.Goals as goal

pub returns : goal.returns
returns c = record { bounding = level_le; attained = attained; symmetric = level_comm; third = by_third; submodular = submodular_sides }
