use Rattle.routes.specs.Walks.{Back, carriers}
use Rattle.routes.proofs.walking.walk.Given as goal

abbrev pub invariant-back : goal.invariant-back
invariant-back l = Back l.pair l.initial.left l.left l.place l.path l.top

abbrev pub decreases-back : goal.decreases-back
decreases-back l = carriers l.pair.net.lines.now l.left
