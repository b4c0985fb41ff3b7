use Rattle.network.proofs.ReadBack.{read_back}
use Rattle.network.proofs.Routed.{routed}
use Rattle.network.proofs.Withstood.{withstood}
use Rattle.network.proofs.laws.route_laws.Goals as goal

pub returns : goal.returns
returns c = record { read_back = read_back; routed = routed; withstood = withstood }
