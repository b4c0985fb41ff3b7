-- What an engine means.
use Rattle.std.specs.Prelude.{◌≡◌, ℕ, ◌^◌, ◌<◌, ◌≤◌, true, false, List, length, drop, Some, None, Option}
use Rattle.network.specs.declared.line.Line.{Line}
use Rattle.network.specs.declared.engine.Flow.{Flow}
use Rattle.network.specs.declared.engine.SiteWork.{SiteWork}
use Rattle.network.specs.Lines.{AllJoin}
use Rattle.network.specs.Sides.{member}
use Rattle.network.specs.Cuts.{crossing}
use Rattle.network.specs.Flow.{AllMarked, Balanced}

-- a call that an engine takes; it declines every other
pub record Task (n : ℕ) (ls : List Line) (a b : ℕ) (ms : List ℕ) (ws : List SiteWork) : Type 0 where
  pub few_sites : n ≤ 64
  pub few_lines : length ls ≤ 512
  pub apart : a ≡ b → ⊥
  pub a_within : a < n
  pub b_within : b < n
  pub joined : AllJoin n ls
  pub marks_room : length ls ≤ length ms
  pub work_room : n ≤ length ws

-- a side that holds a and not b, and only places of the network, and that exactly v free lines cross
pub record PartedBy (n : ℕ) (ls : List Line) (a b v side : ℕ) : Type 0 where
  pub has_a : member side a ≡ true
  pub lacks_b : member side b ≡ false
  pub within : side < 2 ^ n
  pub crossed : crossing ls side ≡ v

-- marks that carry v from a to b over free lines
pub record Carries (ls : List Line) (ms : List ℕ) (a b v : ℕ) : Type 0 where
  pub marked : AllMarked ls ms
  pub balanced : Balanced ls ms a b v

-- what an engine answers to a call that it takes: the value v and the side, with the marks that carry v, and the
-- marks past the last line as they were
pub record Flows (n : ℕ) (ls : List Line) (a b : ℕ) (ms ms' : List ℕ) (v side : ℕ) : Type 0 where
  pub parted : PartedBy n ls a b v side
  pub carried : Carries ls ms' a b v
  pub rest : drop (length ls) ms' ≡ drop (length ls) ms

-- what an engine answers to any call: a flow where it takes the call; where it declines, the marks and the work table
-- are as they were
abbrev pub Answer : ℕ → List Line → ℕ → ℕ → List ℕ → List ℕ → List SiteWork → List SiteWork → Option Flow → Type 0
Answer n ls a b ms ms' ws ws' (Some f) = Task n ls a b ms ws × Flows n ls a b ms ms' f.value f.side
Answer n ls a b ms ms' ws ws' None = (Task n ls a b ms ws → ⊥) × (ms' ≡ ms) × (ws' ≡ ws)
