-- Heights and surplus: what the engine that pushes units down keeps of each place.
use Rattle.std.specs.Prelude.{◌≡◌, ℕ, ◌+◌, ◌-◌, ◌*◌, ◌<◌, ◌≤◌, Bool, true, false, cond, ◌&&◌, List, length, sum_by, ◌==◌, ◌≢◌, nat_eq, slice_set}
use Rattle.network.specs.declared.line.Line.{Line}
use Rattle.network.specs.declared.engine.SiteWork.{SiteWork}
use Rattle.network.specs.Lines.{line_at}
use Rattle.network.specs.Flow.{mark_at, outs, ins, AllMarked}
use Rattle.engines.specs.Arcs.{tail, head, arc, sent_over}
use Rattle.engines.specs.Search.{site_at}

abbrev pub height_at : List SiteWork → ℕ → ℕ
height_at ws p = (site_at ws p).height

abbrev pub surplus_at : List SiteWork → ℕ → ℕ
surplus_at ws p = (site_at ws p).surplus

abbrev pub less_one : SiteWork → SiteWork
less_one w = record { parent = w.parent; seen = w.seen; height = w.height; surplus = w.surplus - 1 }

abbrev pub more_one : SiteWork → SiteWork
more_one w = record { parent = w.parent; seen = w.seen; height = w.height; surplus = w.surplus + 1 }

abbrev pub higher : SiteWork → SiteWork
higher w = record { parent = w.parent; seen = w.seen; height = w.height + 1; surplus = w.surplus }

-- one unit of surplus goes from t to h
abbrev pub moved : List SiteWork → ℕ → ℕ → List SiteWork
moved ws t h = slice_set (slice_set ws t (less_one (site_at ws t))) h (more_one (site_at (slice_set ws t (less_one (site_at ws t))) h))

-- p goes up by one
abbrev pub raised : List SiteWork → ℕ → List SiteWork
raised ws p = slice_set ws p (higher (site_at ws p))

-- what came to a place, with the units that a was given at first, has gone on or is its surplus
abbrev pub Account : List Line → List ℕ → List SiteWork → ℕ → Type 0
Account ls ms ws a = (p : ℕ) → ins (nat_eq p) ls ms + cond (p == a) (length ls) 0 ≡ outs (nat_eq p) ls ms + surplus_at ws p

-- no arc that can take a unit falls by more than one
abbrev pub Labels : List Line → List ℕ → List SiteWork → Type 0
Labels ls ms ws = (k : ℕ) (e : Bool) → k < length ls →
    arc ls ms k e ≡ true → height_at ws (tail (line_at ls k) e) ≤ height_at ws (head (line_at ls k) e) + 1

-- what holds between two steps; no place is ever higher than twice the number of sites
pub record Preflow (ls : List Line) (ms : List ℕ) (ws : List SiteWork) (a b : ℕ) : Type 0 where
  pub marked : AllMarked ls ms
  pub account : Account ls ms ws a
  pub labels : Labels ls ms ws
  pub top : height_at ws a ≡ length ws
  pub bottom : height_at ws b ≡ 0
  pub low : (p : ℕ) → height_at ws p ≤ 2 * length ws

-- the work that is left: a height that can still be gained counts for more than all that the surplus of a place can
-- fall, since no place has more than 1,024 units
abbrev pub weight : ℕ → SiteWork → ℕ
weight n w = (2 * n - w.height) * 1025 + w.surplus * w.height

abbrev pub left : ℕ → List SiteWork → ℕ
left n ws = sum_by (weight n) ws

-- p has a surplus, and no place has more than 1,024 units or is higher than 128
pub record Loaded (ws : List SiteWork) (p : ℕ) : Type 0 where
  pub has : 0 < surplus_at ws p
  pub small : (q : ℕ) → surplus_at ws q ≤ 1024
  pub low : (q : ℕ) → height_at ws q ≤ 128

-- whether an arc from p took a unit of p's surplus, and what that leaves
abbrev pub Sends : List Line → List ℕ → List SiteWork → List ℕ → List SiteWork → ℕ → ℕ → Bool → Bool → Type 0
Sends ls ms ws ms' ws' p k e true =
    (tail (line_at ls k) e ≡ p) × (arc ls ms k e ≡ true) × (ms' ≡ sent_over ms k e)
    × (ws' ≡ moved ws (tail (line_at ls k) e) (head (line_at ls k) e))
Sends ls ms ws ms' ws' p k e false = (ms' ≡ ms) × (ws' ≡ ws) × (tail (line_at ls k) e ≡ p → arc ls ms k e ≡ false)

-- the arc can take a unit one step down
abbrev pub falls : List Line → List ℕ → List SiteWork → ℕ → Bool → Bool
falls ls ms ws k e = height_at ws (tail (line_at ls k) e) == height_at ws (head (line_at ls k) e) + 1 && arc ls ms k e

-- what a push leaves: one arc from p took a unit down
pub record Pushed (ls : List Line) (ms : List ℕ) (ws : List SiteWork) (ms' : List ℕ) (ws' : List SiteWork) (p : ℕ) : Type 0 where
  pub index : ℕ
  pub way : Bool
  pub listed : index < length ls
  pub from : tail (line_at ls index) way ≡ p
  pub down : falls ls ms ws index way ≡ true
  pub marks_are : ms' ≡ sent_over ms index way
  pub work_is : ws' ≡ moved ws (tail (line_at ls index) way) (head (line_at ls index) way)

-- no arc from p over the lines below i takes a unit down
abbrev pub Level : List Line → List ℕ → List SiteWork → ℕ → ℕ → Type 0
Level ls ms ws p i = (k : ℕ) (e : Bool) → k < i → tail (line_at ls k) e ≡ p → falls ls ms ws k e ≡ false

-- what a try over one line leaves: a push, or marks and table as they were, and that way nothing goes down from p
abbrev pub Tried : List Line → List ℕ → List SiteWork → List ℕ → List SiteWork → ℕ → ℕ → Bool → Bool → Type 0
Tried ls ms ws ms' ws' p k e true = Pushed ls ms ws ms' ws' p
Tried ls ms ws ms' ws' p k e false = (ms' ≡ ms) × (ws' ≡ ws) × (tail (line_at ls k) e ≡ p → falls ls ms ws k e ≡ false)

-- .. in either direction
abbrev pub TriedLine : List Line → List ℕ → List SiteWork → List ℕ → List SiteWork → ℕ → ℕ → Bool → Type 0
TriedLine ls ms ws ms' ws' p k true = Pushed ls ms ws ms' ws' p
TriedLine ls ms ws ms' ws' p k false =
    (ms' ≡ ms) × (ws' ≡ ws) × ((e : Bool) → tail (line_at ls k) e ≡ p → falls ls ms ws k e ≡ false)

-- .. and over all lines
abbrev pub TriedAll : List Line → List ℕ → List SiteWork → List ℕ → List SiteWork → ℕ → Bool → Type 0
TriedAll ls ms ws ms' ws' p true = Pushed ls ms ws ms' ws' p
TriedAll ls ms ws ms' ws' p false = (ms' ≡ ms) × (ws' ≡ ws) × Level ls ms ws p (length ls)

-- a step at p keeps what holds between steps and leaves less work
abbrev pub Stepped : List Line → List ℕ → List SiteWork → List ℕ → List SiteWork → ℕ → Type 0
Stepped ls ms ws ms' ws' p = (a b : ℕ) → a < length ws → (p ≢ a) → (p ≢ b) → Preflow ls ms ws a b →
    Preflow ls ms' ws' a b × (left (length ws) ws' < left (length ws) ws)

-- only a and b have a surplus
abbrev pub Settled : List SiteWork → ℕ → ℕ → Type 0
Settled ws a b = (p : ℕ) → (p ≢ a) → (p ≢ b) → surplus_at ws p ≡ 0

-- all places at height 0 and with no surplus, but for a, which is as high as there are places and has the units
pub record Fresh (ws : List SiteWork) (a units : ℕ) : Type 0 where
  pub top : height_at ws a ≡ length ws
  pub purse : surplus_at ws a ≡ units
  pub flat : (q : ℕ) → (q ≢ a) → height_at ws q ≡ 0
  pub empty : (q : ℕ) → (q ≢ a) → surplus_at ws q ≡ 0

-- the lines below k carry all that they can away from a, and the others nothing
pub record Opening (ls : List Line) (ms : List ℕ) (ws : List SiteWork) (a k : ℕ) : Type 0 where
  pub marked : AllMarked ls ms
  pub account : Account ls ms ws a
  pub top : height_at ws a ≡ length ws
  pub flat : (q : ℕ) → (q ≢ a) → height_at ws q ≡ 0
  pub done : (j : ℕ) (e : Bool) → j < k → tail (line_at ls j) e ≡ a → arc ls ms j e ≡ false
  pub unmarked : (j : ℕ) → k ≤ j → mark_at ms j ≡ 0
  pub purse : length ls ≤ surplus_at ws a + k
