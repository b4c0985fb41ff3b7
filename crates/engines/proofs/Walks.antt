-- The walk back from b to a, by the lines over which the search came to b.
use Rattle.std.proofs.Common.{◌≡◌, ℕ, ◌+◌, ◌<◌, ◌≤◌, Bool, true, false, cond, eqb, List, length, sym, refl, ap, ◌∙◌, subst, inl, inr, arith}
use Rattle.std.proofs.lemmas.List.{get_or-set_other}
use Rattle.network.specs.declared.line.Line.{Line}
use Rattle.network.specs.declared.engine.SiteWork.{SiteWork}
use Rattle.network.specs.Lines.{line_at, AllJoin}
use Rattle.network.specs.Flow.{mark_at, one, Balanced}
use Rattle.engines.specs.declared.hand.Hand.{Hand}
use Rattle.engines.specs.Arcs.{tail, head, residual, arc, pushed, sent_over, Sent}
use Rattle.engines.specs.Search.{seen_at, parent_at, way_in, Rooted, Walk}
use Rattle.engines.proofs.Arcs.{tail_below, joined_in, turned, way_to, push_net, push_marked}
use Rattle.engines.proofs.Rounds.{step_by}

-- one unit over the line k to c
module _ (ls : List Line) (ms₀ ms : List ℕ) (ws : List SiteWork) (a b c : ℕ) (size : length ms ≡ length ls)
    (joins : AllJoin (length ws) ls) (w : Walk ls ms₀ ms ws a b c) (k : ℕ) (e : Bool) (listed : k < length ls)
    (ends : head (line_at ls k) e ≡ c) (takes : arc ls ms k e ≡ true) (from_seen : 0 < seen_at ws (tail (line_at ls k) e))
    (falls : seen_at ws (tail (line_at ls k) e) < seen_at ws c) where
  by_flows : Sent ls ms₀ (sent_over ms k e) (tail (line_at ls k) e) b
  by_flows p =
      let net = push_net ls ms k e size listed takes w.marked (eqb p) in
      let there : one (eqb p (head (line_at ls k) e)) ≡ one (eqb p c) = ap (λ (x : ℕ). one (eqb p x)) ends in
      omega (arith, w.flows p)

  -- a place at the layer of k's near end, or below, was not seen by the line k
  other_line : (q j : ℕ) (t : Bool) → head (line_at ls j) t ≡ q → seen_at ws (tail (line_at ls j) t) < seen_at ws q →
      seen_at ws q ≤ seen_at ws (tail (line_at ls k) e) → j ≡ k → ⊥
  other_line q j t h f le eq =
      let h' : head (line_at ls k) t ≡ q = subst (λ (x : ℕ). head (line_at ls x) t ≡ q) eq h in
      let f' : seen_at ws (tail (line_at ls k) t) < seen_at ws q = subst (λ (x : ℕ). seen_at ws (tail (line_at ls x) t) < seen_at ws q) eq f in
      elim (turned (line_at ls k) e t) [
        | inl same ↦ omega (arith, ap (seen_at ws) (sym h' ∙ ap (head (line_at ls k)) same ∙ ends))
        | inr back ↦ omega (arith, ap (seen_at ws) (back.1 ∙ ends))
      ]

  by_route : (q : ℕ) → q < length ws → 0 < seen_at ws q → seen_at ws q ≤ seen_at ws (tail (line_at ls k) e) →
      Rooted ls (sent_over ms k e) ws a q
  by_route q lt lit le =
      elim (w.route q lt lit (omega arith)) [
        | inl root ↦ inl root
        | inr s ↦
            let j = parent_at ws q in
            let still = get_or-set_other ms k j (pushed (mark_at ms k) e) 0 (other_line q j s.way s.ends s.falls le) in
            inr (step_by ls (sent_over ms k e) ws q j s.way refl s.listed s.ends
            (ap (λ (x : ℕ). residual (line_at ls j) x s.way) still ∙ s.takes) s.from_seen s.falls)
      ]

  walk_by : Walk ls ms₀ (sent_over ms k e) ws a b (tail (line_at ls k) e)
  walk_by =
      record {
        inside = tail_below (length ws) (line_at ls k) e (joins k listed);
        lit = from_seen;
        marked = push_marked ls ms k e size listed takes w.marked;
        flows = by_flows;
        route = by_route;
      }

pub walk_step : (h : Hand) (ms₀ ms' : List ℕ) (c c' : ℕ) →
    Walk h.pair.net.lines.now ms₀ h.marks.now h.work.now h.pair.a h.pair.b c → (c ≡ h.pair.a → ⊥) →
    c' ≡ tail (line_at h.pair.net.lines.now (parent_at h.work.now c)) (way_in h.pair.net.lines.now h.work.now c) →
    ms' ≡ sent_over h.marks.now (parent_at h.work.now c) (way_in h.pair.net.lines.now h.work.now c) →
    Walk h.pair.net.lines.now ms₀ ms' h.work.now h.pair.a h.pair.b c' × (seen_at h.work.now c' < seen_at h.work.now c)
walk_step h ms₀ ms' c c' w ne c_is m_is =
    let ls = h.pair.net.lines.now in
    let ms = h.marks.now in
    let ws = h.work.now in
    let a = h.pair.a in
    let b = h.pair.b in
    let joins = joined_in h in
    elim (w.route c w.inside w.lit (omega arith)) [
      | inl root ↦ absurd (ne root)
      | inr s ↦
          let k = parent_at ws c in
          let is = way_to (length ws) (line_at ls k) s.way c (joins k s.listed) s.ends in
          let at : c' ≡ tail (line_at ls k) s.way = c_is ∙ ap (tail (line_at ls k)) is in
          let after : ms' ≡ sent_over ms k s.way = m_is ∙ ap (λ (x : Bool). sent_over ms k x) is in (
            subst (λ (x : ℕ). Walk ls ms₀ ms' ws a b x) (sym at)
                (subst (λ (x : List ℕ). Walk ls ms₀ x ws a b (tail (line_at ls k) s.way)) (sym after)
                (walk_by ls ms₀ ms ws a b c h.marked joins w k s.way s.listed s.ends s.takes s.from_seen s.falls)),
            omega (arith, ap (seen_at ws) at, s.falls),
          )
    ]

-- a unit from a to b adds one to what goes from a to b
pub sent_balanced : (ls : List Line) (ms ms' : List ℕ) (a b v : ℕ) → Sent ls ms ms' a b → Balanced ls ms a b v → Balanced ls ms' a b (v + 1)
sent_balanced ls ms ms' a b v sent bal p =
    omega (arith, sent p, bal p, one_more (eqb p b) v, one_more (eqb p a) v)
  where
    one_more : (t : Bool) (v : ℕ) → cond t (v + 1) 0 ≡ cond t v 0 + one t
    one_more true v = refl
    one_more false v = refl
