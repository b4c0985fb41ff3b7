use Rattle.std.proofs.Common.{◌≡◌, ◌≤◌, ◌++◌, map, drop}
use Rattle.std.specs.List.{range_with_len}
use Rattle.network.specs.Groups.{tally}
use Rattle.cuttree.specs.Trees.{lowest_in, is_lowest_in}
use Rattle.cuttree.proofs.tree.Tree.groups.Given as goal

-- the entries of the places so far are written, and so many of these are the lowest of their group
abbrev pub invariant-loop-x : goal.invariant-loop-x
invariant-loop-x l =
    (l.entries ≡ map (lowest_in l.self l.k) (range_with_len 0 l.x) ++ drop l.x l.initial.entries)
    × (l.count ≡ tally (is_lowest_in l.self l.k) l.x) × (l.count ≤ l.x)
