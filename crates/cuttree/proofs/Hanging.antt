-- From the joins of a finished tree to its table: where each place hangs, and what its lightest edges tell.
use Rattle.std.proofs.Common.{◌≡◌, ℕ, zero, suc, ◌+◌, ◌<◌, ◌≤◌, Bool, eqb, ◌≢◌, ◌↔◌, List, [], ◌∷◌, length, sym, ap, ◌∙◌, subst, inl, inr, arith}
use Rattle.std.proofs.lemmas.Bool.{eq-eqb, ne_eqb, cases_eq, cases_lt, lt-ltb, le-ltb}
use Rattle.network.specs.declared.line.Line.{Line}
use Rattle.network.specs.Lines.{AllJoin}
use Rattle.network.specs.Cuts.{level_of}
use Rattle.network.proofs.Ties.{Tied, tied_sym, tied_trans}
use Rattle.network.proofs.Levels.{count_of, tied_from_level, level_from_tied}
use Rattle.cuttree.specs.declared.tree.Node.{Node}
use Rattle.cuttree.specs.Nodes.{node_at, parent_of, weight_of, order_of, later, earlier, onward, lightest_in, lightest_of}
use Rattle.cuttree.specs.Splits.{Join, Holds}
use Rattle.cuttree.proofs.Climbing.{Rooted, climbs}
use Rattle.cuttree.proofs.Growing.{Joined, Hangs, AllHang, Growing}

module _ (n : ℕ) (c : (ℕ → Bool) → ℕ) (ns : List Node) where
  root_order : Holds ns [] → order_of ns 0 ≡ 0
  root_order e = ap (λ (d : Node). d.order) e

  pub holds_root : (js : List Join) → Holds ns js → order_of ns 0 ≡ 0
  holds_root [] held = root_order held
  holds_root (j ∷ js) held = holds_root js held.1

  place_order : (j : Join) (js : List Join) (x : ℕ) → Holds ns (j ∷ js) → x ≡ j.place → order_of ns x ≡ suc (length js)
  place_order j js x held e = ap (order_of ns) e ∙ ap (λ (d : Node). d.order) held.0

  pub order_joined : (js : List Join) (x : ℕ) → Holds ns js → Joined js x → order_of ns x ≤ length js
  order_joined [] x held e = let p : order_of ns x ≡ 0 = ap (order_of ns) e ∙ root_order held in omega arith
  order_joined (j ∷ js) x held (inl e) = let p = place_order j js x held e in omega arith
  order_joined (j ∷ js) x held (inr h) = let p = order_joined js x held.1 h in omega arith

  -- no two places were joined at one time
  pub order_apart : (js : List Join) (x y : ℕ) → Holds ns js → Joined js x → Joined js y → order_of ns x ≡ order_of ns y → x ≡ y
  order_apart [] x y held hx hy e = hx ∙ sym hy
  order_apart (j ∷ js) x y held (inl p) (inl q) e = p ∙ sym q
  order_apart (j ∷ js) x y held (inl p) (inr q) e = absurd (let a = place_order j js x held p in let b = order_joined js y held.1 q in let z : ⊥ = omega arith in z)
  order_apart (j ∷ js) x y held (inr p) (inl q) e = absurd (let a = place_order j js y held q in let b = order_joined js x held.1 p in let z : ⊥ = omega arith in z)
  order_apart (j ∷ js) x y held (inr p) (inr q) e = order_apart js x y held.1 p q e

  -- how the place z hangs, by the table
  pub record Hung (z : ℕ) : Type 0 where
    pub inside : parent_of ns z < n
    pub falls : order_of ns (parent_of ns z) < order_of ns z
    pub exact : (k : ℕ) → Tied c k (parent_of ns z) z ↔ (k ≤ weight_of ns z)
    pub leaf : (x k : ℕ) → x < n → order_of ns x < order_of ns z → Tied c k x z → Tied c k x (parent_of ns z)

  -- every place that the joins number was joined by them
  abbrev Full : List Join → Type 0
  Full js = (x : ℕ) → x < n → order_of ns x ≤ length js → Joined js x

  full_rest : (j : Join) (js : List Join) → Holds ns (j ∷ js) → Full (j ∷ js) → Full js
  full_rest j js held full x lx le = elim (full x lx (omega arith)) [
    | inl e ↦ absurd (let a = place_order j js x held e in let z : ⊥ = omega arith in z)
    | inr h ↦ h
  ]

  hung_first : (j : Join) (js : List Join) (z : ℕ) → Hangs c js j → Holds ns (j ∷ js) → ((x : ℕ) → Joined (j ∷ js) x → x < n) → Full (j ∷ js) → z ≡ j.place → Hung z
  hung_first j js z hangs held below full e =
      let d : node_at ns z ≡ record { parent = j.to; weight = j.by; order = suc (length js) } = ap (node_at ns) e ∙ held.0 in
      let up : parent_of ns z ≡ j.to = ap (λ (d : Node). d.parent) d in
      let weighs : weight_of ns z ≡ j.by = ap (λ (d : Node). d.weight) d in
      let at : order_of ns z ≡ suc (length js) = ap (λ (d : Node). d.order) d in
      record {
        inside = rw up (below j.to (inr hangs.old));
        falls = rw (up, at) (let p = order_joined js j.to held.1 hangs.old in omega arith);
        exact = λ k. rw (up, weighs, e) (hangs.exact k);
        leaf = λ x k lx lo h. rw up (hangs.leaf x k (full_rest j js held full x lx (omega arith)) (subst (Tied c k x) e h));
      }

  pub hung : (js : List Join) (z : ℕ) → AllHang c js → Holds ns js → ((x : ℕ) → Joined js x → x < n) → Full js → 0 < z → Joined js z → Hung z
  hung [] z hang held below full up e = absurd (let a : ⊥ = omega arith in a)
  hung (j ∷ js) z hang held below full up (inl e) = hung_first j js z hang.0 held below full e
  hung (j ∷ js) z hang held below full up (inr h) = hung js z hang.1 held.1 (λ x q. below x (inr q)) (full_rest j js held full) up h

-- the table of a finished tree
pub record Finished (n : ℕ) (c : (ℕ → Bool) → ℕ) (ns : List Node) : Type 0 where
  pub rooted : Rooted n ns
  pub hangs : (z : ℕ) → z < n → 0 < z → Hung n c ns z
  pub one : (x y : ℕ) → x < n → y < n → order_of ns x ≡ order_of ns y → x ≡ y

pub finished : (n : ℕ) (c : (ℕ → Bool) → ℕ) (ns : List Node) (js : List Join) → 0 < n → Growing n c js [] → Holds ns js → Finished n c ns
finished n c ns js some g held = record {
  rooted = record { inside = within; falls = λ x lx up. (each x lx up).falls; root = holds_root n c ns js held };
  hangs = each;
  one = λ x y lx ly e. order_apart n c ns js x y held (there x lx) (there y ly) e;
}
  where
    there : (x : ℕ) → x < n → Joined js x
    there x l = elim (g.cover x l) [ inl h ↦ h | inr w ↦ absurd w ]

    each : (z : ℕ) → z < n → 0 < z → Hung n c ns z
    each z lz up = hung n c ns js z g.hang held g.below (λ x lx le. there x lx) up (there z lz)

    at_root : (ks : List Join) → Holds ns ks → parent_of ns 0 ≡ 0
    at_root [] h = ap (λ (d : Node). d.parent) h
    at_root (j ∷ ks) h = at_root ks h.1

    within : (x : ℕ) → x < n → parent_of ns x < n
    within x lx = elim (cases_eq x 0) [
      | inl e ↦ (let p : parent_of ns x ≡ 0 = ap (parent_of ns) e ∙ at_root js held in omega arith)
      | inr ne ↦ (each x lx (omega arith)).inside
    ]

-- one edge, from z to p, and the way from p on to w
onward_tied : (c : (ℕ → Bool) → ℕ) (k b p z w far : ℕ) → (Tied c k p z ↔ (k ≤ b)) → (Tied c k w z → Tied c k w p) →
    (p ≢ w → (k ≤ far) ↔ Tied c k p w) → (k ≤ onward b (eqb p w) far) ↔ Tied c k z w
onward_tied c k b p z w far exact leaf more = elim (cases_eq p w) [
  | inl e ↦ rw (eq-eqb p w e, ← e) (λ h. tied_sym c k p z (exact.1 h), λ h. exact.0 (tied_sym c k z p h))
  | inr ne ↦ rw (ne_eqb p w ne) (
    λ h. tied_trans c k z p w (tied_sym c k p z (exact.1 (omega arith))) ((more ne).0 (omega arith)),
    λ h. (let wp = leaf (tied_sym c k z w h) in let pw = tied_sym c k w p wp in
        let a = exact.0 (tied_trans c k p w z pw (tied_sym c k z w h)) in let d = (more ne).1 pw in omega arith),
  )
]

module _ (n : ℕ) (c : (ℕ → Bool) → ℕ) (ns : List Node) (fin : Finished n c ns) where
  pub lightest_tied : (m k x y : ℕ) → order_of ns x + order_of ns y ≤ m → x < n → y < n → x ≢ y → (k ≤ lightest_in m ns x y) ↔ Tied c k x y
  unfolding lightest_in
  lightest_tied zero k x y h lx ly ne = absurd (let q = climbs n ns fin.rooted x y lx ly ne in let z : ⊥ = omega (arith, q.shorter) in z)
  lightest_tied (suc m) k x y h lx ly ne =
      let q = climbs n ns fin.rooted x y lx ly ne in
      let z = later ns x y in
      let w = earlier ns x y in
      let hang = fin.hangs z q.z_below q.above in
      let before : order_of ns w < order_of ns z = elim (cases_lt (order_of ns w) (order_of ns z)) [
        | inl l ↦ l
        | inr l ↦ absurd (q.apart (fin.one z w q.z_below q.w_below (omega (arith, q.not_later))))
      ] in
      let r = onward_tied c k (weight_of ns z) (parent_of ns z) z w (lightest_in m ns (parent_of ns z) w) (hang.exact k) (hang.leaf w k q.w_below before)
      (λ d. lightest_tied m k (parent_of ns z) w (omega (arith, q.shorter)) hang.inside q.w_below d) in
      elim (cases_lt (order_of ns y) (order_of ns x)) [
        | inl l ↦ (let e = lt-ltb (order_of ns y) (order_of ns x) l in (λ a. rw e at (r.0 a), λ a. r.1 (rw e a)))
        | inr l ↦ (let e = le-ltb (order_of ns y) (order_of ns x) l in (λ a. tied_sym c k y x (rw e at (r.0 a)), λ a. r.1 (rw e (tied_sym c k x y a))))
      ]

-- in the tree of a network the lightest edge on the way between two places is their level
pub lightest_is_level : (n : ℕ) (ls : List Line) (ns : List Node) → AllJoin n ls → Finished n (count_of ls) ns →
    (x y : ℕ) → x < n → y < n → x ≢ y → lightest_of ns x y ≡ level_of n ls x y
lightest_is_level n ls ns net fin x y lx ly ne =
    let m = order_of ns x + order_of ns y in
    let a = level_from_tied n ls (lightest_of ns x y) x y lx ly ne ((lightest_tied n (count_of ls) ns fin m (lightest_of ns x y) x y (omega arith) lx ly ne).0 (omega arith)) in
    let b = (lightest_tied n (count_of ls) ns fin m (level_of n ls x y) x y (omega arith) lx ly ne).1 (tied_from_level n ls (level_of n ls x y) x y net lx ly (omega arith)) in
    omega arith
