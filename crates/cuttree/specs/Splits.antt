-- How a tree comes about: from one pair of all places, by splits along least sides.
use Rattle.std.specs.Prelude.{◌≡◌, ℕ, suc, ◌-◌, ◌^◌, ◌<◌, true, not, ◌&&◌, List, [], ◌∷◌, length}
use Rattle.network.specs.declared.line.Line.{Line}
use Rattle.network.specs.Sides.{member}
use Rattle.network.specs.Cuts.{level_of}
use Rattle.network.specs.Answers.{PartedBy}
use Rattle.cuttree.specs.declared.tree.Node.{Node}
use Rattle.cuttree.specs.Nodes.{node_at, no_node}

-- a pending pair: a set of places, and the one of them that is in the tree already
pub record Part : Type 0 where
  pub places : ℕ
  pub from : ℕ

-- a place joined to one that is in the tree, by an edge
pub record Join : Type 0 where
  pub place : ℕ
  pub to : ℕ
  pub by : ℕ

abbrev pub part : ℕ → ℕ → Part
part g s = record { places = g; from = s }

-- all places below n, from place 0
abbrev pub whole : ℕ → Part
whole n = part (2 ^ n - 1) 0

-- nothing is left to join
abbrev pub Alone : Part → Type 0
Alone p = (x : ℕ) → member p.places x ≡ true → x ≡ p.from

-- t is the lowest place of the pair other than its source
pub record Next (p : Part) (t : ℕ) : Type 0 where
  pub waits : member p.places t ≡ true
  pub other : t ≡ p.from → ⊥
  pub lowest : (x : ℕ) → x < t → member p.places x ≡ true → x ≡ p.from

-- what the split of a pair along a side makes of it: the places inside keep the source, those outside get t
pub record Split (p : Part) (t side : ℕ) (near far : Part) : Type 0 where
  pub near_from : near.from ≡ p.from
  pub near_places : (x : ℕ) → member near.places x ≡ (member p.places x && member side x)
  pub far_from : far.from ≡ t
  pub far_places : (x : ℕ) → member far.places x ≡ (member p.places x && not (member side x))

-- the joins that were made, the latest first, and the pairs that are pending
pub data Grown (n : ℕ) (ls : List Line) : List Join → List Part → Type 0 where
  start : Grown n ls [] (whole n ∷ [])
  done : (js : List Join) (p : Part) (ps : List Part) → Alone p → Grown n ls js (p ∷ ps) → Grown n ls js ps
  split : (js : List Join) (p : Part) (ps : List Part) (t w side : ℕ) (near far : Part) → Next p t → w ≡ level_of n ls p.from t →
      PartedBy n ls p.from t w side → Split p t side near far → Grown n ls js (p ∷ ps) →
      Grown n ls (record { place = t; to = p.from; by = w } ∷ js) (near ∷ far ∷ ps)

-- the table holds the joins, each with its number in the order of joining, and the root with nothing
abbrev pub Holds : List Node → List Join → Type 0
Holds ns [] = node_at ns 0 ≡ no_node
Holds ns (j ∷ js) = (node_at ns j.place ≡ record { parent = j.to; weight = j.by; order = suc (length js) }) × Holds ns js

-- the table holds joins that came by splits until no pair was left
abbrev pub BySplits : ℕ → List Line → List Node → Type 0
BySplits n ls ns = (js : List Join) × Grown n ls js [] × Holds ns js

-- k joins in the table, with the pairs ps pending
abbrev pub Stands : ℕ → List Line → List Part → ℕ → List Node → Type 0
Stands n ls ps k ns = (js : List Join) × Grown n ls js ps × Holds ns js × (length js ≡ k)

-- from k joins in the table ns and a pending pair on, to the table that has joined all of it
abbrev pub Grows : ℕ → List Line → Part → ℕ → List Node → ℕ → List Node → Type 0
Grows n ls p k ns k' ns' = (ps : List Part) → Stands n ls (p ∷ ps) k ns → Stands n ls ps k' ns'
