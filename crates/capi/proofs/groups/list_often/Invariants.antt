use Rattle.std.proofs.Common.{◌≡◌}
use Rattle.capi.proofs.groups.list_often.Given as goal

-- every further list is the first
abbrev pub invariant-loop-turn : goal.invariant-loop-turn
invariant-loop-turn g l = l.list ≡ l.initial.list
