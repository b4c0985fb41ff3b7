-- What the fields of a tree say, and what it takes to be two different places.
use Rattle.std.proofs.Common.{◌≡◌, ℕ, ◌<◌, true, ◌≢◌}
use Rattle.std.proofs.lemmas.Bool.{and_parts, and_from, ltb-true, lt-ltb, eqb-false, ne_eqb, not-true, not_from_false}
use Rattle.cuttree.specs.declared.tree.Tree.{Tree}
use Rattle.cuttree.specs.Trees.{two_places}
use Rattle.cuttree.proofs.Climbing.{Rooted}

pub tree_rooted : (t : Tree) → Rooted t.sites t.nodes
tree_rooted t = record { inside = t.inside; falls = t.falls; root = t.root }

pub two_from : (n x y : ℕ) → x < n → y < n → x ≢ y → two_places n x y ≡ true
two_from n x y lx ly ne = and_from _ _ (lt-ltb x n lx) (and_from _ _ (lt-ltb y n ly) (not_from_false _ (ne_eqb x y ne)))

pub two_parts : (n x y : ℕ) → two_places n x y ≡ true → (x < n) × (y < n) × (x ≢ y)
two_parts n x y h =
    let a = and_parts _ _ h in
    let b = and_parts _ _ a.1 in
    (ltb-true x n a.0, ltb-true y n b.0, eqb-false x y (not-true _ b.1))
