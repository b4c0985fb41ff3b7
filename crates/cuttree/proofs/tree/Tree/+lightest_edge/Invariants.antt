use Rattle.std.proofs.Common.{◌+◌}
use Rattle.cuttree.specs.Nodes.{order_of}
use Rattle.cuttree.proofs.tree.Tree.+lightest_edge.Given as goal

-- the order of joining falls at each call
abbrev pub decreases-lightest_edge : goal.decreases-lightest_edge
decreases-lightest_edge l = order_of l.self.now.nodes l.a + order_of l.self.now.nodes l.b
