-- One step of the builder: a pair that is done, and a pair that is split.
use Rattle.std.proofs.Common.{◌≡◌, ℕ, suc, ◌+◌, ◌-◌, ◌^◌, ◌<◌, true, List, [], ◌∷◌, length, set, sym, refl, ap, ◌∙◌, ap₂, inl, inr, add-one, get_or-set_other, get_or-set_same}
use Rattle.std.proofs.lemmas.Bool.{and_parts, and_from, not_from_false}
use Rattle.network.specs.declared.line.Line.{Line}
use Rattle.network.specs.Lines.{AllJoin}
use Rattle.network.specs.Sides.{member, size_below}
use Rattle.network.specs.Cuts.{level_of}
use Rattle.network.specs.Answers.{PartedBy}
use Rattle.cuttree.specs.declared.tree.Node.{Node}
use Rattle.cuttree.specs.Nodes.{node_at, no_node}
use Rattle.cuttree.specs.Splits.{Part, Join, part, Alone, Next, Split, start, done, split, Holds, Stands}
use Rattle.cuttree.proofs.Growing.{Joined, grown_growing}
use Rattle.cuttree.proofs.Sizes.{size_parts, size_some}

-- a write at a place that was not joined
holds_set : (ns : List Node) (js : List Join) (t : ℕ) (v : Node) → (Joined js t → ⊥) → Holds ns js → Holds (set ns t v) js
holds_set ns [] t v new held = get_or-set_other ns t 0 v no_node (λ e. new (sym e)) ∙ held
holds_set ns (j ∷ js) t v new held =
    (get_or-set_other ns t j.place v no_node (λ e. new (inl (sym e))) ∙ held.0, holds_set ns js t v (λ h. new (inr h)) held.1)

pub stands_start : (n : ℕ) (ls : List Line) (g : ℕ) (ns : List Node) → g ≡ 2 ^ n - 1 → node_at ns 0 ≡ no_node → Stands n ls (part g 0 ∷ []) 0 ns
stands_start n ls g ns e root = ([], rw e start, root, refl)

pub stands_done : (n : ℕ) (ls : List Line) (p : Part) (ps : List Part) (k : ℕ) (ns : List Node) → Alone p → Stands n ls (p ∷ ps) k ns → Stands n ls ps k ns
stands_done n ls p ps k ns alone st = (st.0, done st.0 p ps alone st.1, st.2, st.3)

module _ (n : ℕ) (ls : List Line) (p : Part) (t w side : ℕ) (near far : Part) (some : 0 < n) (net : AllJoin n ls) (next : Next p t)
    (level : w ≡ level_of n ls p.from t) (parted : PartedBy n ls p.from t w side) (parts : Split p t side near far) where
  pub stands_split : (ps : List Part) (k s : ℕ) (ns : List Node) (v : Node) → t < length ns →
      v ≡ record { parent = s; weight = w; order = k + 1 } → s ≡ p.from →
      Stands n ls (p ∷ ps) k ns → Stands n ls (near ∷ far ∷ ps) (k + 1) (set ns t v)
  stands_split ps k s ns v room v_is s_is st =
      let js = st.0 in
      let g = grown_growing n ls js (p ∷ ps) some net st.1 in
      let new : Joined js t → ⊥ = λ h. next.other (g.parts.0.only t h next.waits) in
      let number : k + 1 ≡ suc (length js) = add-one k ∙ ap suc (sym st.3) in (
        record { place = t; to = p.from; by = w } ∷ js,
        split js p ps t w side near far next level parted parts st.1,
        (
          get_or-set_same ns t v no_node room ∙ v_is ∙ ap₂ (λ (q o : ℕ). record { parent = q; weight = w; order = o }) s_is number,
          holds_set ns js t v new st.2,
        ),
        sym number,
      )

-- the two parts of a pair with all its places below n
module _ {n : ℕ} {p : Part} {t side : ℕ} {near far : Part} (parts : Split p t side near far)
    (within : (x : ℕ) → member p.places x ≡ true → x < n) where
  pub near_within : (x : ℕ) → member near.places x ≡ true → x < n
  near_within x h = within x (and_parts _ _ (sym (parts.near_places x) ∙ h)).0

  pub far_within : (x : ℕ) → member far.places x ≡ true → x < n
  far_within x h = within x (and_parts _ _ (sym (parts.far_places x) ∙ h)).0

  -- together they have the pair's places, and each has one at least
  pub record Halves : Type 0 where
    pub all : size_below n near.places + size_below n far.places ≡ size_below n p.places
    pub some_near : 0 < size_below n near.places
    pub some_far : 0 < size_below n far.places

  pub halves : (ls : List Line) (w : ℕ) → member p.places p.from ≡ true → Next p t → PartedBy n ls p.from t w side → Halves
  halves ls w held next parted = record {
    all = size_parts n p.places side near.places far.places parts.near_places parts.far_places;
    some_near = size_some n near.places p.from (within p.from held) (parts.near_places p.from ∙ and_from _ _ held parted.has_a);
    some_far = size_some n far.places t (within t next.waits) (parts.far_places t ∙ and_from _ _ next.waits (not_from_false _ parted.lacks_b));
  }
