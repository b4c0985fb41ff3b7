-- Lines of a network: when one is free, and which places it joins.
use Rattle.std.specs.Prelude.{ℕ, ◌<◌, ◌≤◌, Bool, true, false, List, length, ◌≢◌, slice_index_or}
use Rattle.network.specs.declared.line.Line.{Line}
use Rattle.network.specs.declared.line.LineState.{LineState}
use Rattle.network.specs.declared.line.LineState.TheVariants.{Free, Held}

-- no booking has the line
abbrev pub is_free : LineState → Bool
is_free Free = true
is_free (Held n) = false

-- what stands past the last line of a table
abbrev pub no_line : Line
no_line = record { number = 0; first = 0; second = 0; state = Free }

-- the line at a position of the table
abbrev pub line_at : List Line → ℕ → Line
line_at ls p = slice_index_or ls p no_line

-- the line joins two different places below n
abbrev pub Joins : ℕ → Line → Type 0
Joins n l = (l.first < n) × (l.second < n) × (l.first ≢ l.second)

-- each line of the table joins two different places below n
abbrev pub AllJoin : ℕ → List Line → Type 0
AllJoin n ls = (p : ℕ) → p < length ls → Joins n (line_at ls p)

-- n sites and these lines are no more than a network has, and each line joins two different sites
pub record Fits (n : ℕ) (ls : List Line) : Type 0 where
  pub few_sites : n ≤ 64
  pub few_lines : length ls ≤ 512
  pub joined : AllJoin n ls
