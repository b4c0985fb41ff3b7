-- Routes drawn one after the other. They stand at the end of a store, the latest first.
use Rattle.std.specs.Prelude.{◌≡◌, ℕ, ◌+◌, ◌-◌, ◌≤◌, true, List, length, drop}
use Rattle.network.specs.declared.pair.Pair.{Pair}
use Rattle.network.specs.Lists.{every}
use Rattle.network.specs.Routes.{route, separate}
use Rattle.routes.specs.Taking.{listed}
use Rattle.routes.specs.Walks.{carriers, picked, Kept}

-- i routes between a pair's places are taken out of the marks, and stand in the store from the top on
pub record Drawn (q : Pair) (ms ms' : List ℕ) (i : ℕ) (rs : List (List ℕ)) (store : List ℕ) (top : ℕ) : Type 0 where
  pub many : length rs ≡ i
  pub stands : drop top store ≡ listed rs
  pub within : top ≤ length store
  pub routes : every (route q.net.lines.now q.a q.b) rs ≡ true
  pub apart : separate rs ≡ true
  pub out : every (every (picked ms ms')) rs ≡ true
  pub kept : Kept ms ms'
  pub fewer : carriers q.net.lines.now ms' + (length store - top) ≤ i + length q.net.lines.now
