-- What taking routes out of an engine's marks means.
use Rattle.std.specs.Prelude.{◌≡◌, ℕ, ◌+◌, ◌<◌, ◌≤◌, Bool, true, not, List, ◌++◌, length, drop, Some, None, Option, ◌==◌}
use Rattle.network.specs.declared.line.Line.{Line}
use Rattle.network.specs.Lines.{AllJoin}
use Rattle.network.specs.Lists.{every}
use Rattle.network.specs.Routes.{FreeRoutes, written}
use Rattle.network.specs.Flow.{mark_at}
use Rattle.network.specs.Answers.{Carries}
use Rattle.routes.specs.declared.marking.Marking.{Marking}

-- a call that is taken: the marks carry v from a to b, and no more than v routes are wanted
pub record Fit (n : ℕ) (ls : List Line) (ms : List ℕ) (a b v k : ℕ) : Type 0 where
  pub few_sites : n ≤ 64
  pub few_lines : length ls ≤ 512
  pub apart : a ≡ b → ⊥
  pub a_within : a < n
  pub b_within : b < n
  pub joined : AllJoin n ls
  pub marks_room : length ls ≤ length ms
  pub carried : Carries ls ms a b v
  pub enough : k ≤ v

-- .. as a marking makes it
abbrev pub FitBy : Marking → ℕ → Type 0
FitBy m k = Fit m.sites m.lines.now m.marks.now m.a m.b m.value k

-- the line at the position p carries
abbrev pub carrying : List ℕ → ℕ → Bool
carrying ms p = not (mark_at ms p == 0)

-- the routes as counts and positions
abbrev pub listed : List (List ℕ) → List ℕ
listed rs = written (λ p. p) rs

-- k separate routes of free lines, each of which carries; all their lines and counts together are no more than there
-- are lines, and k
pub record Chosen (ls : List Line) (ms : List ℕ) (a b k : ℕ) (rs : List (List ℕ)) : Type 0 where
  pub free_routes : FreeRoutes ls a b k rs
  pub carry : every (every (carrying ms)) rs ≡ true
  pub short : length (listed rs) ≤ k + length ls

-- the answer to any call: the routes stand at the front of the list and the rest of it is as it was; or nothing is
-- written, since the call is not fit or the list is shorter than what is to be written
abbrev pub Taken : ℕ → List Line → List ℕ → ℕ → ℕ → ℕ → ℕ → List ℕ → List ℕ → Option ℕ → Type 0
Taken n ls ms a b v k xs xs' (Some w) =
    Fit n ls ms a b v k × ((rs : List (List ℕ)) × Chosen ls ms a b k rs × (w ≡ length (listed rs)) × (xs' ≡ listed rs ++ drop w xs))
Taken n ls ms a b v k xs xs' None =
    (xs' ≡ xs) × (Fit n ls ms a b v k → (rs : List (List ℕ)) × Chosen ls ms a b k rs × (length xs < length (listed rs)))

-- .. to the call that a marking makes
abbrev pub TakenBy : Marking → ℕ → List ℕ → List ℕ → Option ℕ → Type 0
TakenBy m k xs xs' r = Taken m.sites m.lines.now m.marks.now m.a m.b m.value k xs xs' r
