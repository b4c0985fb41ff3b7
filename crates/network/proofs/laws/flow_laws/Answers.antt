use Rattle.network.proofs.Duality.{value_is_level}
use Rattle.network.proofs.laws.flow_laws.Goals as goal

pub returns : goal.returns
returns c = record { value = value_is_level }
