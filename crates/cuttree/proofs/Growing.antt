-- The tree under construction, for any submodular count: the joins that were made, and the pairs that are pending.
use Rattle.std.proofs.Common.{◌≡◌, ℕ, ◌<◌, ◌≤◌, Bool, true, false, not, ◌≢◌, ◌⊎◌, ◌↔◌, List, [], ◌∷◌, sym, refl, ap, ◌∙◌, subst, inl, inr, arith}
use mathlib.Core.Path.{fun_ext}
use Rattle.std.specs.List.{AllByRecursion as All}
use Rattle.std.proofs.ByRecursion.{All-weaker}
use Rattle.std.proofs.lemmas.Bool.{cases_Bool, and_parts, and_from, and_right, not-true, lt-ltb, ltb-true, false≢true}
use Rattle.network.specs.declared.line.Line.{Line}
use Rattle.network.specs.Lines.{AllJoin}
use Rattle.network.specs.Sides.{member}
use Rattle.network.proofs.Members.{member_ones}
use Rattle.network.proofs.Ties.{Tied, SubmodularCount, tied_self, tied_weaker, differ_parts}
use Rattle.network.proofs.Levels.{count_of, submodular_count, tied_from_level}
use Rattle.cuttree.specs.Splits.{Part, Join, whole, Alone, Split, Grown, start, done, split}
use Rattle.cuttree.proofs.Splitting.{Apart, split_inside, split_outside}

-- x is the root or was joined
abbrev pub Joined : List Join → ℕ → Type 0
Joined [] x = x ≡ 0
Joined (j ∷ js) x = (x ≡ j.place) ⊎ Joined js x

-- how a new place hangs in the tree: by its tie with the place that it is joined to, which is tied to each earlier
-- place at least as much
pub record Hangs (c : (ℕ → Bool) → ℕ) (js : List Join) (j : Join) : Type 0 where
  pub new : Joined js j.place → ⊥
  pub old : Joined js j.to
  pub exact : (k : ℕ) → Tied c k j.to j.place ↔ (k ≤ j.by)
  pub leaf : (x k : ℕ) → Joined js x → Tied c k x j.place → Tied c k x j.to

abbrev pub AllHang : ((ℕ → Bool) → ℕ) → List Join → Type 0
AllHang c [] = Unit {0}
AllHang c (j ∷ js) = Hangs c js j × AllHang c js

-- a pending pair: its source is the one place of the tree in it, and stands for it towards all other places
pub record Open (n : ℕ) (c : (ℕ → Bool) → ℕ) (js : List Join) (p : Part) : Type 0 where
  pub within : (x : ℕ) → member p.places x ≡ true → x < n
  pub rooted : Joined js p.from
  pub holds : member p.places p.from ≡ true
  pub only : (x : ℕ) → Joined js x → member p.places x ≡ true → x ≡ p.from
  pub apart : Apart n c (λ x. member p.places x) p.from

-- two pairs have no place in common
abbrev pub Clear : Part → Part → Type 0
Clear p q = (x : ℕ) → member p.places x ≡ true → member q.places x ≡ false

abbrev pub AllClear : List Part → Type 0
AllClear [] = Unit {0}
AllClear (p ∷ ps) = All (Clear p) ps × AllClear ps

abbrev pub Waiting : List Part → ℕ → Type 0
Waiting [] x = ⊥
Waiting (p ∷ ps) x = (member p.places x ≡ true) ⊎ Waiting ps x

pub record Growing (n : ℕ) (c : (ℕ → Bool) → ℕ) (js : List Join) (ps : List Part) : Type 0 where
  pub hang : AllHang c js
  pub below : (x : ℕ) → Joined js x → x < n
  pub parts : All (Open n c js) ps
  pub clear : AllClear ps
  pub cover : (x : ℕ) → x < n → Joined js x ⊎ Waiting ps x

-- at the start the tree is the root alone, and one pair holds every place
pub growing_start : (n : ℕ) (c : (ℕ → Bool) → ℕ) → 0 < n → Growing n c [] (whole n ∷ [])
growing_start n c h = record {
  hang = tt;
  below = λ x e. omega arith;
  parts = (
    record {
      within = λ x p. ltb-true x n (sym (member_ones n x) ∙ p);
      rooted = refl;
      holds = member_ones n 0 ∙ lt-ltb 0 n h;
      only = λ x e p. e;
      apart = unfold Apart in λ x z k l out inn t. absurd (false≢true (sym out ∙ member_ones n x ∙ lt-ltb x n l));
    },
    tt,
  );
  clear = (tt, tt);
  cover = λ x l. inr (inl (member_ones n x ∙ lt-ltb x n l));
}

-- a pair with its source alone is done
pub growing_done : (n : ℕ) (c : (ℕ → Bool) → ℕ) (js : List Join) (p : Part) (ps : List Part) → Alone p → Growing n c js (p ∷ ps) → Growing n c js ps
growing_done n c js p ps alone g = record {
  hang = g.hang;
  below = g.below;
  parts = g.parts.1;
  clear = g.clear.1;
  cover = λ x l. elim (g.cover x l) [
    | inl h ↦ inl h
    | inr w ↦ elim w [ inl h ↦ inl (subst (Joined js) (sym (alone x h)) g.parts.0.rooted) | inr v ↦ inr v ]
  ];
}

-- along a least side between a pair's source and a place t of it: t is joined to the source, and the pair is split
module _ (n : ℕ) (c : (ℕ → Bool) → ℕ) (sub : SubmodularCount c) (js : List Join) (p : Part) (ps : List Part) (t side : ℕ) (near far : Part)
    (waits : member p.places t ≡ true) (xs : member side p.from ≡ true) (xt : member side t ≡ false)
    (least : Tied c (c (λ x. member side x)) p.from t) (parts : Split p t side near far) (g : Growing n c js (p ∷ ps)) where
  abbrev s : ℕ
  s = p.from

  abbrev N : ℕ → Bool
  N x = member p.places x

  abbrev X : ℕ → Bool
  X x = member side x

  abbrev pub split_join : Join
  split_join = record { place = t; to = p.from; by = c (λ x. member side x) }

  opened : Open n c js p
  opened = g.parts.0

  s≢t : s ≢ t
  s≢t e = false≢true (sym xt ∙ subst (λ x. member side x ≡ true) e xs)

  hangs : Hangs c js split_join
  unfolding Apart Tied
  hangs = record {
    new = λ h. s≢t (sym (opened.only t h waits));
    old = opened.rooted;
    exact = λ k. (λ h. h X (differ_parts _ _ xs xt), λ h. tied_weaker c k (c X) s t h least);
    leaf = λ x k hx h. elim (cases_Bool (N x)) [
      | inl q ↦ subst (λ y. Tied c k y s) (sym (opened.only x hx q)) (tied_self c k s)
      | inr q ↦ opened.apart x t k (g.below x hx) q waits h
    ];
  }

  in_near : (x : ℕ) → member near.places x ≡ true → (N x ≡ true) × (X x ≡ true)
  in_near x h = and_parts _ _ (sym (parts.near_places x) ∙ h)

  in_far : (x : ℕ) → member far.places x ≡ true → (N x ≡ true) × (X x ≡ false)
  in_far x h = let q = and_parts _ _ (sym (parts.far_places x) ∙ h) in (q.0, not-true _ q.1)

  open_near : Open n c (split_join ∷ js) near
  open_near = rw parts.near_from record {
    within = λ x h. opened.within x (in_near x h).0;
    rooted = inr opened.rooted;
    holds = parts.near_places s ∙ and_from _ _ opened.holds xs;
    only = λ x hx h. elim hx [
      | inl e ↦ absurd (false≢true (sym xt ∙ subst (λ y. member side y ≡ true) e (in_near x h).1))
      | inr hx' ↦ opened.only x hx' (in_near x h).0
    ];
    apart = subst (λ M. Apart n c M s) (fun_ext (λ i. sym (parts.near_places i))) (split_inside n c sub N X s t opened.apart xs xt least);
  }

  open_far : Open n c (split_join ∷ js) far
  open_far = rw parts.far_from record {
    within = λ x h. opened.within x (in_far x h).0;
    rooted = inl refl;
    holds = parts.far_places t ∙ and_from _ _ waits (ap not xt);
    only = λ x hx h. elim hx [
      | inl e ↦ e
      | inr hx' ↦ absurd (false≢true (sym (in_far x h).1 ∙ subst (λ y. member side y ≡ true) (sym (opened.only x hx' (in_far x h).0)) xs))
    ];
    apart = subst (λ M. Apart n c M t) (fun_ext (λ i. sym (parts.far_places i))) (split_outside n c sub N X s t opened.apart xs xt least);
  }

  open_others : (qs : List Part) → All (Open n c js) qs → All (Clear p) qs → All (Open n c (split_join ∷ js)) qs
  open_others [] os cs = tt
  open_others (q ∷ qs) os cs = (
    record {
      within = os.0.within;
      rooted = inr os.0.rooted;
      holds = os.0.holds;
      only = λ x hx h. elim hx [
        | inl e ↦ absurd (false≢true (sym (cs.0 t waits) ∙ subst (λ y. member q.places y ≡ true) e h))
        | inr hx' ↦ os.0.only x hx' h
      ];
      apart = os.0.apart;
    },
    open_others qs os.1 cs.1,
  )

  pub growing_split : Growing n c (split_join ∷ js) (near ∷ far ∷ ps)
  growing_split = record {
    hang = (hangs, g.hang);
    below = λ x hx. elim hx [ inl e ↦ subst (λ y. y < n) (sym e) (opened.within t waits) | inr h ↦ g.below x h ];
    parts = (open_near, (open_far, open_others ps g.parts.1 g.clear.0));
    clear = (
      (
        λ x h. parts.far_places x ∙ and_right _ _ (ap not (in_near x h).1),
        All-weaker (Clear p) (Clear near) (λ q d x h. d x (in_near x h).0) ps g.clear.0,
      ),
      (All-weaker (Clear p) (Clear far) (λ q d x h. d x (in_far x h).0) ps g.clear.0, g.clear.1),
    );
    cover = λ x l. elim (g.cover x l) [
      | inl h ↦ inl (inr h)
      | inr v ↦ elim v [
        | inl h ↦ elim (cases_Bool (X x)) [
          | inl q ↦ inr (inl (parts.near_places x ∙ and_from _ _ h q))
          | inr q ↦ inr (inr (inl (parts.far_places x ∙ and_from _ _ h (ap not q))))
        ]
        | inr u ↦ inr (inr (inr u))
      ]
    ];
  }

-- the free lines that cross a set are one such count
pub grown_growing : (n : ℕ) (ls : List Line) (js : List Join) (ps : List Part) → 0 < n → AllJoin n ls → Grown n ls js ps → Growing n (count_of ls) js ps
grown_growing n ls [] (w ∷ []) some net start = growing_start n (count_of ls) some
grown_growing n ls js ps some net (done _ p _ alone h) = growing_done n (count_of ls) js p ps alone (grown_growing n ls js (p ∷ ps) some net h)
grown_growing n ls _ _ some net (split js p ps t w side near far next level_is parted parts h) =
    let g = grown_growing n ls js (p ∷ ps) some net h in
    let o = g.parts.0 in
    subst (λ v. Growing n (count_of ls) (record { place = t; to = p.from; by = v } ∷ js) (near ∷ far ∷ ps)) parted.crossed
    (growing_split n (count_of ls) (submodular_count ls) js p ps t side near far next.waits parted.has_a parted.lacks_b
    (tied_from_level n ls _ p.from t net (o.within p.from o.holds) (o.within t next.waits) (omega (arith, parted.crossed))) parts g)
