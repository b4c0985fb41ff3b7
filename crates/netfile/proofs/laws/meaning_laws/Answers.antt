use Rattle.netfile.proofs.FaultLaws.{fault_law, none_law, layer_law}
use Rattle.netfile.proofs.Networks.{holds}
use Rattle.netfile.proofs.laws.meaning_laws.Goals as goal

pub returns : goal.returns
returns c = record { denied = fault_law; accepted = none_law; layers = layer_law; networks = holds }
