use Rattle.network.specs.Sides.{size_below}
use Rattle.cuttree.proofs.builder.+grow.Given as goal

-- both parts of a pair have fewer places than the pair
abbrev pub decreases-grow : goal.decreases-grow
decreases-grow g l = size_below l.net.now.sites l.pending.available
