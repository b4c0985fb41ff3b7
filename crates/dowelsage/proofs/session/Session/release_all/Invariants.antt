use Rattle.std.proofs.Common.{vec_len}
use Rattle.dowelsage.proofs.session.Session.release_all.Given as goal

abbrev pub decreases-release : goal.decreases-release
decreases-release g l = vec_len l.self.desk.now.passes
