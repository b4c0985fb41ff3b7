use Rattle.std.proofs.Common.{replicate, refl, arith}
use Rattle.cuttree.proofs.Rooting.{two_parts}
use Rattle.cuttree.proofs.Building.{empty_node, none_by_splits}
use Rattle.cuttree.proofs.tree.Tree.empty.Goals as goal

pub returns-clause-tree : goal.returns-clause-tree
returns-clause-tree c = λ ls. record {
  spans = refl;
  levels = λ x y h. (let low = (two_parts 0 x y h).0 in absurd (omega arith));
  splits = ∣ none_by_splits ls (replicate 64 c.default.result) (empty_node c.default.result c.default.ensures) ∣₁;
}
