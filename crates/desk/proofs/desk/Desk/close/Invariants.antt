use Rattle.std.proofs.Common.{vec_len}
use Rattle.desk.proofs.desk.Desk.close.Given as goal

abbrev pub decreases-release : goal.decreases-release
decreases-release g l = vec_len l.self.passes
