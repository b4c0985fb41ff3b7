-- What is proved of trees over any submodular count on sets of places. Crossing free lines is one such count.
use Rattle.std.specs.Prelude.{◌≡◌, ℕ, ◌+◌, ◌<◌, ◌≤◌, Bool, true, false, ◌&&◌, ◌||◌, ◌↔◌, List, [], ◌∷◌}
use Rattle.network.specs.Sides.{member, differ}
use Rattle.cuttree.specs.declared.tree.Node.{Node}
use Rattle.cuttree.specs.Nodes.{lightest_of}
use Rattle.cuttree.specs.Splits.{Part, Join, whole, Alone, Split, Holds}
use Rattle.cuttree.specs.Trees.{two_places}

-- two sets count at least as much as their intersection and their union
abbrev pub Submodular : ((ℕ → Bool) → ℕ) → Type 0
Submodular c = (m w : ℕ → Bool) → c (λ i. m i && w i) + c (λ i. m i || w i) ≤ c m + c w

-- every set that holds exactly one of a and b counts k or more
abbrev pub AtLeast : ((ℕ → Bool) → ℕ) → ℕ → ℕ → ℕ → Type 0
AtLeast c k a b = (m : ℕ → Bool) → differ (m a) (m b) ≡ true → k ≤ c m

-- what is tied across a least set between s and t is tied to s inside it, to t outside, and s to t
abbrev pub Step : Type 0
Step = (c : (ℕ → Bool) → ℕ) → Submodular c → (X : ℕ → Bool) (k u v s t : ℕ) → X u ≡ true → X v ≡ false → X s ≡ true → X t ≡ false →
    AtLeast c (c X) s t → AtLeast c k u v → AtLeast c k u s × AtLeast c k s t × AtLeast c k t v

-- the joins and the pending pairs of a tree that grows by splits along sides that the count finds least
pub data GrownBy (n : ℕ) (c : (ℕ → Bool) → ℕ) : List Join → List Part → Type 0 where
  all_places : GrownBy n c [] (whole n ∷ [])
  lone_source : (js : List Join) (p : Part) (ps : List Part) → Alone p → GrownBy n c js (p ∷ ps) → GrownBy n c js ps
  least_side : (js : List Join) (p : Part) (ps : List Part) (t side : ℕ) (near far : Part) → member p.places t ≡ true →
      member side p.from ≡ true → member side t ≡ false → AtLeast c (c (λ x. member side x)) p.from t → Split p t side near far →
      GrownBy n c js (p ∷ ps) → GrownBy n c (record { place = t; to = p.from; by = c (λ x. member side x) } ∷ js) (near ∷ far ∷ ps)

-- the lightest edge on the way between two places is the least count of a set that parts them
abbrev pub LightestIsLeast : Type 0
LightestIsLeast = (n : ℕ) (c : (ℕ → Bool) → ℕ) (js : List Join) (ns : List Node) → Submodular c → 0 < n → GrownBy n c js [] → Holds ns js →
    (k x y : ℕ) → two_places n x y ≡ true → (k ≤ lightest_of ns x y) ↔ AtLeast c k x y
