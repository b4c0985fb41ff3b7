-- The walk that takes one route out of the marks. It goes against the direction of the lines, from b back to a, so
-- that a route grows at its front.
use Rattle.std.specs.Prelude.{◌≡◌, ℕ, suc, ◌+◌, ◌-◌, ◌≤◌, Bool, true, cond, not, ◌&&◌, List, ◌∷◌, length, drop, ◌==◌, nat_eq}
use Rattle.network.specs.declared.line.Line.{Line}
use Rattle.network.specs.declared.pair.Pair.{Pair}
use Rattle.network.specs.Lists.{distinct, every}
use Rattle.network.specs.Routes.{chained, stops, end_of}
use Rattle.network.specs.Flow.{sum_marked, one, outs, ins, Balanced}
use Rattle.routes.specs.Taking.{carrying}

-- where a carrying line comes from
abbrev pub source_of : Line → ℕ → ℕ
source_of l m = cond (m == 1) l.first l.second

-- how many lines carry
unfoldable pub carriers : List Line → List ℕ → ℕ
carriers ls ms = sum_marked (λ l m. one (not (m == 0))) ls ms

-- a chain from x to b that passes no place twice and whose lines all pass the test
pub record Way (ls : List Line) (Q : ℕ → Bool) (x b : ℕ) (r : List ℕ) : Type 0 where
  pub chain : chained ls x r ≡ true
  pub ends : end_of ls x r ≡ b
  pub simple : distinct (x ∷ stops ls x r) ≡ true
  pub each : every Q r ≡ true

-- the line carried under the first marks and does not under the second
abbrev pub picked : List ℕ → List ℕ → ℕ → Bool
picked ms ms' p = carrying ms p && not (carrying ms' p)

-- only lines that carried still carry
abbrev pub Kept : List ℕ → List ℕ → Type 0
Kept ms ms' = (p : ℕ) → carrying ms' p ≡ true → carrying ms p ≡ true

-- v units go from a to b, and one more from a to c
abbrev pub Underway : List Line → List ℕ → ℕ → ℕ → ℕ → ℕ → Type 0
Underway ls ms a b c v =
    (p : ℕ) → outs (nat_eq p) ls ms + one (p == c) + cond (p == b) v 0 ≡ ins (nat_eq p) ls ms + cond (p == a) (suc v) 0

-- marks, with one for each line, that carry k units or more from the first place of a pair to the second
pub record Supplies (q : Pair) (ms : List ℕ) (k : ℕ) : Type 0 where
  pub room : length q.net.lines.now ≤ length ms
  pub most : ℕ
  pub enough : k ≤ most
  pub balanced : Balanced q.net.lines.now ms q.a q.b most

-- the walk between a pair's places has come back to c: what stands in the path from the top on leads from there to the
-- second, over lines that are taken out of the marks
pub record Back (q : Pair) (ms ms' : List ℕ) (c : ℕ) (path : List ℕ) (top : ℕ) : Type 0 where
  pub within : top ≤ length path
  pub led : Way q.net.lines.now (picked ms ms') c q.b (drop top path)
  pub kept : Kept ms ms'
  pub fewer : carriers q.net.lines.now ms' + (length path - top) ≤ carriers q.net.lines.now ms
  pub underway : (v : ℕ) → Balanced q.net.lines.now ms q.a q.b (suc v) → Underway q.net.lines.now ms' q.a q.b c v
