-- Heights that no place has: from above one, no arc leads below it. So no place with a surplus is higher than twice the
-- number of places, and no search from a comes to b.
use Rattle.std.proofs.Common.{◌≡◌, ℕ, zero, suc, ◌+◌, ◌-◌, ◌*◌, ◌<◌, ◌≤◌, Bool, true, false, cond, eqb, ltb, leb, ◌⊎◌, List, [], ◌∷◌, length, MatchBool, sum_by, count_by, sym, refl, ap, ◌∙◌, inl, inr, arith}
use Rattle.std.proofs.lemmas.List.Sums.{sum_by-cons, get_or-le-sum_by, count_by-le-length}
use Rattle.std.proofs.lemmas.Bool.{cases_eq, cases_lt, eq-eqb, ne_eqb, lt-ltb, le-leb, ltb-true, cond-true, cond-false}
use Rattle.std.proofs.lemmas.Bool.Decides.{nat_tests}
use Rattle.network.specs.declared.line.Line.{Line}
use Rattle.network.specs.declared.engine.SiteWork.{SiteWork}
use Rattle.network.specs.Lines.{line_at, AllJoin}
use Rattle.network.specs.Cuts.{crossing_by}
use Rattle.network.specs.Flow.{outs, ins, AllMarked}
use Rattle.network.proofs.Sums.{below}
use Rattle.engines.specs.Arcs.{tail, head}
use Rattle.engines.specs.Search.{no_site, site_at, seen_at, parent_at, Rooted, Found, Stuck}
use Rattle.engines.specs.Heights.{height_at, surplus_at, Account, Labels, Preflow}
use Rattle.engines.proofs.Arcs.{head_below, tail_below, joins_at}
use Rattle.engines.proofs.Cuts.{Closed, shut_cut}
use Rattle.engines.proofs.Accounts.{total, account_cut, total_zero, total_ge}

sum_by_add : (f g h : SiteWork → ℕ) → ((w : SiteWork) → f w ≡ g w + h w) → (ws : List SiteWork) → sum_by f ws ≡ sum_by g ws + sum_by h ws
sum_by_add f g h each [] = refl
sum_by_add f g h each (w ∷ ws) = omega (arith, sum_by-cons f w ws, sum_by-cons g w ws, sum_by-cons h w ws, each w, sum_by_add f g h each ws)

-- how many places are at the height k or above, and how many are at it
abbrev high : ℕ → List SiteWork → ℕ
high k ws = count_by (λ w. leb k w.height) ws

abbrev level : ℕ → List SiteWork → ℕ
level k ws = count_by (λ w. eqb w.height k) ws

high_split : (k : ℕ) (ws : List SiteWork) → high k ws ≡ high (suc k) ws + level k ws
high_split k ws =
    sum_by_add (λ w. cond (leb k w.height) 1 0) (λ w. cond (leb (suc k) w.height) 1 0) (λ w. cond (eqb w.height k) 1 0) (λ w. grind (arith, nat_tests)) ws

high_all : (k : ℕ) (ws : List SiteWork) → high k ws ≤ length ws
high_all k ws = count_by-le-length (λ (w : SiteWork). leb k w.height) ws

high_some : (ws : List SiteWork) (k q : ℕ) → q < length ws → k ≤ height_at ws q → 0 < high k ws
high_some ws k q lt at =
    let f : SiteWork → ℕ = λ w. cond (leb k w.height) 1 0 in
    let le : f (site_at ws q) ≤ high k ws = get_or-le-sum_by f ws q no_site lt in
    let is : f (site_at ws q) ≡ 1 = cond-true (leb k (height_at ws q)) 1 0 (le-leb k (height_at ws q) at) in
    omega arith

level_some : (ws : List SiteWork) (k q : ℕ) → q < length ws → height_at ws q ≡ k → 0 < level k ws
level_some ws k q lt at =
    let f : SiteWork → ℕ = λ w. cond (eqb w.height k) 1 0 in
    let le : f (site_at ws q) ≤ level k ws = get_or-le-sum_by f ws q no_site lt in
    let is : f (site_at ws q) ≡ 1 = cond-true (eqb (height_at ws q) k) 1 0 (eq-eqb (height_at ws q) k at) in
    omega arith

-- of m heights from lo on one has no place, or as many places as that are at lo or above
gap : (ws : List SiteWork) (lo m hi : ℕ) → hi ≡ lo + m → ((k : ℕ) × ((lo ≤ k) × (k < hi) × (level k ws ≡ 0))) ⊎ (high hi ws + m ≤ high lo ws)
gap ws lo zero hi e = inr (let same : high hi ws ≡ high lo ws = ap (λ (k : ℕ). high k ws) (omega arith) in omega arith)
gap ws lo (suc m) hi e =
    elim (cases_eq (level lo ws) 0) [
      | inl none ↦ inl (lo, (omega arith, omega arith, none))
      | inr some ↦ elim (gap ws (suc lo) m hi (omega arith)) [
        | inl found ↦ inl (found.0, (omega arith, found.1.1, found.1.2))
        | inr many ↦ inr (omega (arith, high_split lo ws))
      ]
    ]

-- where no place is at the height k, no arc leaves those above it
above_closed : (ls : List Line) (ms : List ℕ) (ws : List SiteWork) (k : ℕ) → AllJoin (length ws) ls → Labels ls ms ws → level k ws ≡ 0 →
    Closed ls ms (λ q. ltb k (height_at ws q))
above_closed ls ms ws k joins labels none j e lt h tk =
    let to = head (line_at ls j) e in
    let up = ltb-true k (height_at ws (tail (line_at ls j) e)) h in
    let ne : height_at ws to ≡ k → ⊥ = λ at. omega (arith, level_some ws k to (head_below (length ws) (line_at ls j) e (joins j lt)) at) in
    lt-ltb k (height_at ws to) (omega (arith, labels j e lt tk))

-- a place with a surplus is below twice the number of places
module _ (ls : List Line) (ms : List ℕ) (ws : List SiteWork) (a p : ℕ) (size : length ms ≡ length ls) (joins : AllJoin (length ws) ls)
    (marked : AllMarked ls ms) (account : Account ls ms ws a) (labels : Labels ls ms ws) (top : height_at ws a ≡ length ws)
    (a_in : a < length ws) (p_in : p < length ws) (has : 0 < surplus_at ws p) where
  -- places above a gap that is itself at a or above get nothing, so they have no surplus
  over_gap : (k : ℕ) → length ws ≤ k → k < height_at ws p → level k ws ≡ 0 → ⊥
  over_gap k from under none =
      let n = length ws in
      let S : ℕ → Bool = λ q. ltb k (height_at ws q) in
      let whole : outs (below S n) ls ms + total S (surplus_at ws) n ≡ ins (below S n) ls ms + total S (λ _. 0) n =
      account_cut S (surplus_at ws) (λ _. 0) ls ms n (λ q h.
      let up = ltb-true k (height_at ws q) h in
      let not_a : cond (eqb q a) (length ls) 0 ≡ 0 = cond-false (eqb q a) (length ls) 0 (ne_eqb q a (λ e. omega (arith, ap (height_at ws) e))) in
      omega (arith, account q)) in
      let shut : outs (below S n) ls ms ≡ ins (below S n) ls ms + crossing_by S ls =
      shut_cut S n ls ms size joins marked (above_closed ls ms ws k joins labels none) in
      omega (arith, total_zero S n, total_ge S (surplus_at ws) n p p_in (lt-ltb k (height_at ws p) under))

  pub bounded : height_at ws p < 2 * length ws
  bounded =
      elim (cases_lt (height_at ws p) (2 * length ws)) [
        | inl ok ↦ ok
        | inr over ↦ elim (gap ws (length ws) (length ws) (2 * length ws) (omega arith)) [
          | inl found ↦ absurd (over_gap found.0 found.1.0 (omega (arith, found.1.1)) found.1.2)
          | inr many ↦ absurd (omega (arith, high_some ws (2 * length ws) p p_in over, high_all (length ws) ws))
        ]
      ]

-- a search from a stays in a set that holds a and that no arc leaves
module _ (ls : List Line) (ms : List ℕ) (ws : List SiteWork) (a : ℕ) (P : ℕ → Bool) (has_a : P a ≡ true) (closed : Closed ls ms P)
    (joins : AllJoin (length ws) ls) (tree : (q : ℕ) → q < length ws → 0 < seen_at ws q → Rooted ls ms ws a q) where
  inside_by : (d q : ℕ) → seen_at ws q ≤ d → q < length ws → 0 < seen_at ws q → P q ≡ true
  inside_by zero q le lt lit = absurd (omega arith)
  inside_by (suc d) q le lt lit =
      elim (tree q lt lit) [
        | inl root ↦ ap P root ∙ has_a
        | inr s ↦
            let k = parent_at ws q in
            let from = inside_by d (tail (line_at ls k) s.way) (omega (arith, s.falls))
            (tail_below (length ws) (line_at ls k) s.way (joins k s.listed)) s.from_seen in
            sym (ap P s.ends) ∙ closed k s.way s.listed from s.takes
      ]

  stays : (q : ℕ) → q < length ws → 0 < seen_at ws q → P q ≡ true
  stays q = inside_by (seen_at ws q) q (omega arith)

-- some height between b's and a's has no place
between : (ws : List SiteWork) (a b : ℕ) → a < length ws → b < length ws → height_at ws a ≡ length ws → height_at ws b ≡ 0 →
    (k : ℕ) × ((0 < k) × (k < length ws) × (level k ws ≡ 0))
between ws a b a_in b_in top bottom =
    elim (gap ws 1 (length ws - 1) (length ws) (omega arith)) [
      | inl found ↦ (found.0, (omega (arith, found.1.0), found.1.1, found.1.2))
      | inr many ↦ absurd (omega (arith, high_some ws (length ws) a a_in (omega arith), level_some ws 0 b b_in bottom, high_split 0 ws, high_all 0 ws))
    ]

-- a search from a over the arcs of a preflow never comes to b; the search may have changed the records meanwhile
module _ (ls : List Line) (ms : List ℕ) (ws ws' : List SiteWork) (a b : ℕ) (size : length ws' ≡ length ws) (joins : AllJoin (length ws) ls)
    (a_in : a < length ws) (b_in : b < length ws) (f : Preflow ls ms ws a b) where
  unreached : Found ls ms ws' a b → ⊥
  unreached found =
      let g = between ws a b a_in b_in f.top f.bottom in
      let k = g.0 in
      let up = stays ls ms ws' a (λ q. ltb k (height_at ws q)) (lt-ltb k (height_at ws a) (omega (arith, g.1.1, f.top)))
      (above_closed ls ms ws k joins f.labels g.1.2) (joins_at (length ws) (length ws') ls size joins) found.tree b (omega arith) found.lit in
      omega (arith, ltb-true k (height_at ws b) up, f.bottom)

  pub stuck : (r : Bool) → MatchBool r (Found ls ms ws' a b) (Stuck ls ms ws' a b) → Stuck ls ms ws' a b
  stuck true found = absurd (unreached found)
  stuck false s = s
