-- The way between two places of a tree ends, and its lightest edge comes by steps toward the root.
use Rattle.std.proofs.Common.{◌≡◌, ℕ, zero, suc, ◌+◌, ◌<◌, ◌≤◌, min, eqb, ◌≢◌, List, sym, ap, ◌∙◌, inl, inr, arith}
use Rattle.std.proofs.lemmas.Bool.{eq-eqb, ne_eqb, cases_eq, cases_lt, lt-ltb, le-ltb}
use Rattle.cuttree.specs.declared.tree.Node.{Node}
use Rattle.cuttree.specs.Nodes.{parent_of, weight_of, order_of, later, earlier, onward, climb, lightest_in, lightest_of}

-- the places below n hang from place 0, each from one that was joined before it
pub record Rooted (n : ℕ) (ns : List Node) : Type 0 where
  pub inside : (x : ℕ) → x < n → parent_of ns x < n
  pub falls : (x : ℕ) → x < n → 0 < x → order_of ns (parent_of ns x) < order_of ns x
  pub root : order_of ns 0 ≡ 0

module _ (n : ℕ) (ns : List Node) (rooted : Rooted n ns) where
  pub not_root : (x : ℕ) → 0 < order_of ns x → 0 < x
  not_root x h = elim (cases_eq x 0) [
    | inl e ↦ absurd (let p : order_of ns x ≡ 0 = ap (order_of ns) e ∙ rooted.root in omega arith)
    | inr ne ↦ omega arith
  ]

  -- of two different places the one that is not earlier is not the root
  pub late_not_root : (x y : ℕ) → x < n → x ≢ y → order_of ns x ≤ order_of ns y → 0 < y
  late_not_root x y lx ne le = elim (cases_eq y 0) [
    | inl e ↦ (let p : order_of ns y ≡ 0 = ap (order_of ns) e ∙ rooted.root in
        absurd (let z : ⊥ = omega (arith, rooted.falls x lx (let q : 0 < x = elim (cases_eq x 0) [ inl f ↦ absurd (ne (f ∙ sym e)) | inr g ↦ omega arith ] in q)) in z))
    | inr g ↦ omega arith
  ]

  -- what a climb of the later of two places leads to
  pub record Climbs (x y z w : ℕ) : Type 0 where
    pub late : later ns x y ≡ z
    pub early : earlier ns x y ≡ w
    pub z_below : z < n
    pub w_below : w < n
    pub above : 0 < z
    pub apart : z ≢ w
    pub not_later : order_of ns w ≤ order_of ns z
    pub shorter : order_of ns (parent_of ns z) + order_of ns w < order_of ns x + order_of ns y

  pub climbs : (x y : ℕ) → x < n → y < n → x ≢ y → Climbs x y (later ns x y) (earlier ns x y)
  climbs x y lx ly ne = elim (cases_lt (order_of ns y) (order_of ns x)) [
    | inl l ↦ (let e = lt-ltb (order_of ns y) (order_of ns x) l in let up = not_root x (omega arith) in let f = rooted.falls x lx up in
        rw e record { late = rw e; early = rw e; z_below = lx; w_below = ly; above = up; apart = ne; not_later = omega arith; shorter = omega arith })
    | inr l ↦ (let e = le-ltb (order_of ns y) (order_of ns x) l in let up = late_not_root x y lx ne l in let f = rooted.falls y ly up in
        rw e record { late = rw e; early = rw e; z_below = ly; w_below = lx; above = up; apart = λ g. ne (sym g); not_later = l; shorter = omega arith })
  ]

  -- a longer way is never needed
  pub lightest_more : (m j x y : ℕ) → order_of ns x + order_of ns y ≤ m → order_of ns x + order_of ns y ≤ j → x < n → y < n → x ≢ y →
      lightest_in m ns x y ≡ lightest_in j ns x y
  unfolding lightest_in
  lightest_more zero j x y hm hj lx ly ne = absurd (let c = climbs x y lx ly ne in let z : ⊥ = omega (arith, c.shorter) in z)
  lightest_more (suc m) zero x y hm hj lx ly ne = absurd (let c = climbs x y lx ly ne in let z : ⊥ = omega (arith, c.shorter) in z)
  lightest_more (suc m) (suc j) x y hm hj lx ly ne =
      let c = climbs x y lx ly ne in
      let z = later ns x y in
      let w = earlier ns x y in
      elim (cases_eq (parent_of ns z) w) [
        | inl e ↦ rw (eq-eqb (parent_of ns z) w e)
        | inr d ↦ ap (onward (weight_of ns z) (eqb (parent_of ns z) w))
            (lightest_more m j (parent_of ns z) w (omega (arith, c.shorter)) (omega (arith, c.shorter)) (rooted.inside z c.z_below) c.w_below d)
      ]

  pub lightest_step : (x y : ℕ) → x < n → y < n → x ≢ y → lightest_of ns x y ≡ climb (lightest_of ns) ns (later ns x y) (earlier ns x y)
  unfolding lightest_in
  lightest_step x y lx ly ne =
      let c = climbs x y lx ly ne in
      let z = later ns x y in
      let w = earlier ns x y in
      lightest_more (order_of ns x + order_of ns y) (suc (order_of ns x + order_of ns y)) x y (omega arith) (omega arith) lx ly ne
      ∙ elim (cases_eq (parent_of ns z) w) [
        | inl e ↦ rw (eq-eqb (parent_of ns z) w e)
        | inr d ↦ ap (onward (weight_of ns z) (eqb (parent_of ns z) w))
            (lightest_more (order_of ns x + order_of ns y) (order_of ns (parent_of ns z) + order_of ns w) (parent_of ns z) w (omega (arith, c.shorter)) (omega arith) (rooted.inside z c.z_below) c.w_below d)
      ]

  -- the same where the two have names of their own
  pub lightest_here : (x y z w : ℕ) → x < n → y < n → x ≢ y → z ≡ later ns x y → w ≡ earlier ns x y → parent_of ns z ≡ w →
      weight_of ns z ≡ lightest_of ns x y
  lightest_here x y z w lx ly ne ez ew met =
      let e : parent_of ns (later ns x y) ≡ earlier ns x y = rw (← ez, ← ew) met in
      ap (weight_of ns) ez ∙ sym (lightest_step x y lx ly ne ∙ rw (eq-eqb (parent_of ns (later ns x y)) (earlier ns x y) e))

  pub lightest_on : (x y z w : ℕ) → x < n → y < n → x ≢ y → z ≡ later ns x y → w ≡ earlier ns x y → parent_of ns z ≢ w →
      min (weight_of ns z) (lightest_of ns (parent_of ns z) w) ≡ lightest_of ns x y
  lightest_on x y z w lx ly ne ez ew apart =
      let d : parent_of ns (later ns x y) ≢ earlier ns x y = rw (← ez, ← ew) apart in
      rw (ez, ew) (sym (lightest_step x y lx ly ne ∙ rw (ne_eqb (parent_of ns (later ns x y)) (earlier ns x y) d)))
