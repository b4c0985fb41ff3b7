-- The lines that carry with one of their ends at a place.
use Rattle.std.specs.Prelude.{ℕ, Bool, List}
use Rattle.network.specs.declared.line.Line.{Line}
use Rattle.network.specs.Flow.{leaves, arrives, outs, ins}
use Rattle.routes.specs.declared.arcs.End.{End}
use Rattle.routes.specs.declared.arcs.End.TheVariants.{From, To}

-- 1 where the line carries with this end at a place of the set P
abbrev pub counts_at : End → (ℕ → Bool) → Line → ℕ → ℕ
counts_at From P l m = leaves P l m
counts_at To P l m = arrives P l m

-- how many lines do
abbrev pub carried_at : End → (ℕ → Bool) → List Line → List ℕ → ℕ
carried_at From P ls ms = outs P ls ms
carried_at To P ls ms = ins P ls ms
