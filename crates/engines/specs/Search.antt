-- The search outward from a place, layer by layer, over lines that can still carry.
use Rattle.std.specs.Prelude.{◌≡◌, ℕ, ◌+◌, ◌<◌, ◌≤◌, Bool, true, false, cond, ◌&&◌, ◌⊎◌, List, length, count_by, ◌==◌, nat_eq, slice_index_or, slice_set}
use Rattle.network.specs.declared.line.Line.{Line}
use Rattle.network.specs.declared.engine.SiteWork.{SiteWork}
use Rattle.network.specs.Lines.{line_at}
use Rattle.network.specs.Flow.{AllMarked}
use Rattle.engines.specs.Arcs.{tail, head, arc, Sent}

-- what stands past the last record of a work table
abbrev pub no_site : SiteWork
no_site = record { parent = 0; seen = 0; height = 0; surplus = 0 }

abbrev pub site_at : List SiteWork → ℕ → SiteWork
site_at ws p = slice_index_or ws p no_site

-- the layer at which a place was seen, from 1 on; 0 for a place not seen
abbrev pub seen_at : List SiteWork → ℕ → ℕ
seen_at ws p = (site_at ws p).seen

-- the line by which a place was seen
abbrev pub parent_at : List SiteWork → ℕ → ℕ
parent_at ws p = (site_at ws p).parent

abbrev pub unseen : List SiteWork → ℕ
unseen ws = count_by (λ w. nat_eq w.seen 0) ws

-- the line by which q was seen can take a unit to q, from a place seen at an earlier layer
pub record Step (ls : List Line) (ms : List ℕ) (ws : List SiteWork) (q : ℕ) : Type 0 where
  pub way : Bool
  pub listed : parent_at ws q < length ls
  pub ends : head (line_at ls (parent_at ws q)) way ≡ q
  pub takes : arc ls ms (parent_at ws q) way ≡ true
  pub from_seen : 0 < seen_at ws (tail (line_at ls (parent_at ws q)) way)
  pub falls : seen_at ws (tail (line_at ls (parent_at ws q)) way) < seen_at ws q

abbrev pub Rooted : List Line → List ℕ → List SiteWork → ℕ → ℕ → Type 0
Rooted ls ms ws a q = (q ≡ a) ⊎ Step ls ms ws q

-- no arc leaves the places that are seen
abbrev pub Shut : List Line → List ℕ → List SiteWork → Type 0
Shut ls ms ws = (k : ℕ) (e : Bool) → k < length ls →
    0 < seen_at ws (tail (line_at ls k) e) → arc ls ms k e ≡ true → 0 < seen_at ws (head (line_at ls k) e)

-- a round of the search from a, which looks at the places of the layer d; `Done` tells the arcs that it has tried
pub record Round (ls : List Line) (ms : List ℕ) (a d : ℕ) (found : Bool) (Done : ℕ → Bool → Type 0) (ws : List SiteWork) : Type 0 where
  pub started : 0 < d
  pub root : seen_at ws a ≡ 1
  pub tree : (q : ℕ) → q < length ws → 0 < seen_at ws q → Rooted ls ms ws a q
  pub top : (q : ℕ) → seen_at ws q ≤ d + 1
  pub below : (k : ℕ) (e : Bool) → k < length ls → 0 < seen_at ws (tail (line_at ls k) e) →
      seen_at ws (tail (line_at ls k) e) < d → arc ls ms k e ≡ true → 0 < seen_at ws (head (line_at ls k) e)
  pub here : (k : ℕ) (e : Bool) → Done k e → seen_at ws (tail (line_at ls k) e) ≡ d →
      arc ls ms k e ≡ true → 0 < seen_at ws (head (line_at ls k) e)
  pub quiet : found ≡ false → (q : ℕ) → seen_at ws q ≤ d
  pub room : d + cond found 1 0 + unseen ws ≤ length ws

-- the arc leads from a place of the layer d to one not seen, and can take a unit
abbrev pub reaches : List Line → List ℕ → ℕ → ℕ → Bool → List SiteWork → Bool
reaches ls ms d k e ws =
    (seen_at ws (tail (line_at ls k) e) == d) && (seen_at ws (head (line_at ls k) e) == 0 && arc ls ms k e)

-- the layers of the two ends of the line add up to d: no arc over another line reaches anything
abbrev pub adds_up : ℕ → Line → List SiteWork → Bool
adds_up d l ws = seen_at ws l.first + seen_at ws l.second == d

-- the record of a place seen at the layer d by the line k
abbrev pub noted : ℕ → ℕ → SiteWork → SiteWork
noted k d w = record { parent = k; seen = d; height = w.height; surplus = w.surplus }

-- the work table where the line k has been tried that way, and has reached its far end or not
abbrev pub seen_after : List Line → ℕ → ℕ → Bool → List SiteWork → Bool → List SiteWork
seen_after ls d k e ws hit = cond hit (slice_set ws (head (line_at ls k) e) (noted k (d + 1) (site_at ws (head (line_at ls k) e)))) ws

-- what a round over all lines at the layer d leaves, where it has found something or not
abbrev pub Scanned : List Line → List ℕ → ℕ → List SiteWork → List SiteWork → Bool → Type 0
Scanned ls ms d ws ws' found = (a : ℕ) → Round ls ms a d false (λ k e. ⊥) ws → Round ls ms a d found (λ k e. k < length ls) ws'

-- the direction in which the line by which c was seen leads to c
abbrev pub way_in : List Line → List SiteWork → ℕ → Bool
way_in ls ws c = (line_at ls (parent_at ws c)).second == c

-- the walk back from b to a has come to c: the unit goes from c on to b already
pub record Walk (ls : List Line) (ms₀ ms : List ℕ) (ws : List SiteWork) (a b c : ℕ) : Type 0 where
  pub inside : c < length ws
  pub lit : 0 < seen_at ws c
  pub marked : AllMarked ls ms
  pub flows : Sent ls ms₀ ms c b
  pub route : (q : ℕ) → q < length ws → 0 < seen_at ws q → seen_at ws q ≤ seen_at ws c → Rooted ls ms ws a q

-- what a search answers: b is seen, and a way leads back to a from each place that is seen ..
pub record Found (ls : List Line) (ms : List ℕ) (ws : List SiteWork) (a b : ℕ) : Type 0 where
  pub lit : 0 < seen_at ws b
  pub tree : (q : ℕ) → q < length ws → 0 < seen_at ws q → Rooted ls ms ws a q

-- .. or a is seen and b is not, and no arc leaves what is seen
pub record Stuck (ls : List Line) (ms : List ℕ) (ws : List SiteWork) (a b : ℕ) : Type 0 where
  pub lit : 0 < seen_at ws a
  pub dark : seen_at ws b ≡ 0
  pub shut : Shut ls ms ws
