use Rattle.std.proofs.Common.{◌≡◌, ℕ, ◌/◌, ◌%◌, ◌<◌, List, get_or}
use Rattle.network.specs.declared.line.Line.{Line}
use Rattle.cuttree.specs.Trees.{TreeOf}
use Rattle.capi.specs.Calls.{level_or_0}
use Rattle.capi.proofs.levels.write_table.Given as goal

-- the entries below i are written
abbrev pub invariant-loop-i : goal.invariant-loop-i
invariant-loop-i l =
    (ls : List Line) → TreeOf l.sites ls l.tree → (j : ℕ) → j < l.i → get_or l.table j 0 ≡ level_or_0 l.sites ls (j / l.sites) (j % l.sites)
