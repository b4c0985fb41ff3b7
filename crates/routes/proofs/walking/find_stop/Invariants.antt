use Rattle.std.proofs.Common.{drop}
use Rattle.routes.proofs.Ways.{Scanned}
use Rattle.routes.proofs.walking.find_stop.Given as goal

abbrev pub invariant-loop-i : goal.invariant-loop-i
invariant-loop-i l = Scanned l.lines l.start l.place l.chain l.stop (drop l.i l.chain)
