-- The whole: a table that has joined every place is the tree of the network.
use Rattle.std.proofs.Common.{◌≡◌, ℕ, ◌-◌, ◌^◌, ◌≤◌, min, List, [], sym, ap, ◌∙◌, ap₂, arith}
use Rattle.network.specs.declared.line.Line.{Line}
use Rattle.std.proofs.lemmas.Bool.{false≢true}
use Rattle.network.proofs.Members.{member_none}
use Rattle.network.proofs.Levels.{count_of}
use Rattle.cuttree.specs.declared.tree.Node.{Node}
use Rattle.cuttree.specs.Nodes.{node_at, no_node}
use Rattle.cuttree.specs.Splits.{part, whole, start, done, Stands, Grows, BySplits}
use Rattle.cuttree.specs.Trees.{Lawful}
use Rattle.cuttree.proofs.Growing.{grown_growing}
use Rattle.cuttree.proofs.Hanging.{Finished, finished}
use Rattle.cuttree.proofs.Joining.{stands_start}

pub all_of : {n g r : ℕ} → n ≤ 64 → r ≡ g → g ≡ 2 ^ min n 64 - 1 → r ≡ 2 ^ n - 1
all_of {n} few same is = let whole_n : min n 64 ≡ n = omega arith in same ∙ is ∙ ap (λ m. 2 ^ m - 1) whole_n

-- the node of a place that was not joined
pub empty_node : (d : Node) → (d.parent ≡ 0) × ((d.weight ≡ 0) × (d.order ≡ 0)) → d ≡ no_node
empty_node d e = ap₂ (λ (p w : ℕ). record { parent = p; weight = w; order = d.order }) e.0 e.1.0 ∙ ap (λ (o : ℕ). record { parent = 0; weight = 0; order = o }) e.1.1

-- a table that has joined every place
pub record Complete (n : ℕ) (ls : List Line) (ns : List Node) : Type 0 where
  pub lawful : Lawful n ls
  pub table : Finished n (count_of ls) ns
  pub by_splits : BySplits n ls ns

-- g are all places below n, s is the root, and ns the empty table
pub complete : {n : ℕ} {ls : List Line} {g s k : ℕ} (ns ns' : List Node) → Lawful n ls → s ≡ 0 → g ≡ 2 ^ n - 1 → node_at ns 0 ≡ no_node →
    Grows n ls (part g s) 0 ns k ns' → Complete n ls ns'
complete {n} {ls} {g} {s} {k} ns ns' lawful s_is all empty grows =
    let ended : Stands n ls [] k ns' = grows [] (rw s_is (stands_start n ls g ns all empty)) in
    record {
      lawful = lawful;
      table = finished n (count_of ls) ns' ended.0 lawful.some_site (grown_growing n ls ended.0 [] lawful.some_site lawful.fits.joined ended.1) ended.2;
      by_splits = (ended.0, ended.1, ended.2);
    }

-- of no places the first pair is done at once
pub none_by_splits : (ls : List Line) (ns : List Node) → node_at ns 0 ≡ no_node → BySplits 0 ls ns
none_by_splits ls ns e = ([], done [] (whole 0) [] (λ x h. absurd (false≢true (sym (member_none x) ∙ h))) start, e)
