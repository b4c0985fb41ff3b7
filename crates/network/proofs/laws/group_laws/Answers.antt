use Rattle.network.proofs.Groups.{shared}
use Rattle.network.proofs.GroupList.{groups_listed}
use Rattle.network.proofs.laws.group_laws.Goals as goal

pub returns : goal.returns
returns c = record { shared = shared; listed = groups_listed }
