use Rattle.std.proofs.Common.{ℕ, ◌-◌, List}
use Rattle.routes.specs.Walks.{Supplies}
use Rattle.routes.specs.Draws.{Drawn}
use Rattle.routes.proofs.taking.draw.Given as goal

abbrev pub invariant-loop-done : goal.invariant-loop-done
invariant-loop-done l =
    ((rs : List (List ℕ)) × Drawn l.pair l.initial.left l.left l._done rs l.store l.top)
    × Supplies l.pair l.left (l.k - l._done)
