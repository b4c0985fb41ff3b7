-- Arcs: a line taken in one of its two directions, `true` for from its first place to its second.
use Rattle.std.specs.Prelude.{◌≡◌, ℕ, ◌+◌, Bool, true, false, cond, not, ◌&&◌, List, ◌==◌, nat_eq, slice_set}
use Rattle.network.specs.declared.line.Line.{Line}
use Rattle.network.specs.Lines.{is_free, line_at}
use Rattle.network.specs.Flow.{mark_at, one, outs, ins}

-- the mark of a line that carries in the direction
abbrev pub code : Bool → ℕ
code true = 1
code false = 2

-- the place that an arc comes from, and the one that it leads to
abbrev pub tail : Line → Bool → ℕ
tail l e = cond e l.first l.second

abbrev pub head : Line → Bool → ℕ
head l e = cond e l.second l.first

-- one more unit can go over a line of that mark: the line is free and does not carry that way yet
abbrev pub residual : Line → ℕ → Bool → Bool
residual l m e = is_free l.state && not (m == code e)

-- .. over the line k of the table
abbrev pub arc : List Line → List ℕ → ℕ → Bool → Bool
arc ls ms k e = residual (line_at ls k) (mark_at ms k) e

-- the mark after one more unit: an unused line starts to carry, one that carries the other way stops
abbrev pub pushed : ℕ → Bool → ℕ
pushed m e = cond (m == 0) (code e) 0

-- the marks after one more unit over the line k
abbrev pub sent_over : List ℕ → ℕ → Bool → List ℕ
sent_over ms k e = slice_set ms k (pushed (mark_at ms k) e)

-- one more unit goes from x to y under the marks ms' than under ms
abbrev pub Sent : List Line → List ℕ → List ℕ → ℕ → ℕ → Type 0
Sent ls ms ms' x y = (p : ℕ) →
    outs (nat_eq p) ls ms' + ins (nat_eq p) ls ms + one (p == y) ≡ outs (nat_eq p) ls ms + ins (nat_eq p) ls ms' + one (p == x)
