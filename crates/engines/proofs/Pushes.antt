-- A step keeps what holds between steps: a unit pushed down, or a place raised that no arc leads down from.
use Rattle.std.proofs.Common.{◌≡◌, ℕ, ◌+◌, ◌*◌, ◌<◌, ◌≤◌, Bool, true, false, cond, eqb, List, length, sym, ap, ◌∙◌, subst, inl, inr, arith}
use Rattle.std.proofs.lemmas.List.{get_or-set_other}
use Rattle.std.proofs.lemmas.Bool.{cases_eq, eqb-true, and_parts, and_from, eq-eqb, ne_eqb, cond-false, both_ways}
use Rattle.std.proofs.lemmas.Bool.Decides.{nat_tests}
use Rattle.network.specs.declared.line.Line.{Line}
use Rattle.network.specs.declared.engine.SiteWork.{SiteWork}
use Rattle.network.specs.Lines.{line_at, AllJoin}
use Rattle.network.specs.Flow.{mark_at, one, outs, AllMarked}
use Rattle.network.proofs.Sums.{ins_le}
use Rattle.engines.specs.declared.hand.Hand.{Hand}
use Rattle.engines.specs.Arcs.{tail, head, residual, arc, pushed, sent_over}
use Rattle.engines.specs.Heights.{height_at, surplus_at, moved, raised, Loaded, Account, Labels, Preflow, left, falls, Pushed, Level, Stepped}
use Rattle.engines.proofs.Arcs.{head_below, tail_below, ends_apart, joined_in, turned, push_net, push_marked}
use Rattle.engines.proofs.Moves.{moved_length, moved_surplus, moved_height, moved_left, raised_length, raised_surplus, raised_height, raised_left}
use Rattle.engines.proofs.Gaps.{bounded}

-- no place has more units than can come to it and a was given
pub small : (ls : List Line) (ms : List ℕ) (ws : List SiteWork) (a p : ℕ) → Account ls ms ws a → surplus_at ws p ≤ 2 * length ls
small ls ms ws a p account =
    let c : cond (eqb p a) (length ls) 0 ≤ length ls = grind (arith, nat_tests) in
    omega (arith, account p, ins_le (eqb p) ls ms)

pub loaded : (h : Hand) (p : ℕ) → Preflow h.pair.net.lines.now h.marks.now h.work.now h.pair.a h.pair.b →
    0 < surplus_at h.work.now p → Loaded h.work.now p
loaded h p f has =
    record {
      has = has;
      small = λ q. omega (arith, small h.pair.net.lines.now h.marks.now h.work.now h.pair.a q f.account, h.pair.net.few_lines);
      low = λ q. omega (arith, f.low q, h.kept, h.pair.net.few_sites);
    }

pub push_account : (ls : List Line) (ms : List ℕ) (k : ℕ) (e : Bool) → length ms ≡ length ls → k < length ls → arc ls ms k e ≡ true →
    (ws : List SiteWork) (a : ℕ) → AllJoin (length ws) ls → AllMarked ls ms → Account ls ms ws a → 0 < surplus_at ws (tail (line_at ls k) e) →
    Account ls (sent_over ms k e) (moved ws (tail (line_at ls k) e) (head (line_at ls k) e)) a
push_account ls ms k e size listed takes ws a joins marked account has p =
    let l = line_at ls k in
    let j = joins k listed in
    let net = push_net ls ms k e size listed takes marked (eqb p) in
    let mv = moved_surplus ws (tail l e) (head l e) (tail_below (length ws) l e j) (head_below (length ws) l e j) (ends_apart (length ws) l e j) has p in
    omega (arith, account p)

module _ (ls : List Line) (ms : List ℕ) (ws : List SiteWork) (a b p : ℕ) (size : length ms ≡ length ls) (joins : AllJoin (length ws) ls)
    (f : Preflow ls ms ws a b) (has : 0 < surplus_at ws p) where
  -- the only new arc leads back up
  old_label : (k : ℕ) (e : Bool) → height_at ws (tail (line_at ls k) e) ≡ height_at ws (head (line_at ls k) e) + 1 → arc ls ms k e ≡ true →
      (i : ℕ) (t : Bool) → i < length ls → arc ls (sent_over ms k e) i t ≡ true →
      height_at ws (tail (line_at ls i) t) ≤ height_at ws (head (line_at ls i) t) + 1
  old_label k e step takes i t it tk =
      elim (cases_eq i k) [
        | inl eq ↦ elim (turned (line_at ls k) e t) [
          | inl same ↦ f.labels i t it (subst (λ (x : ℕ). arc ls ms x t ≡ true) (sym eq) (subst (λ (x : Bool). arc ls ms k x ≡ true) (sym same) takes))
          | inr back ↦ omega (
            arith,
            ap (λ (x : ℕ). height_at ws (tail (line_at ls x) t)) eq,
            ap (λ (x : ℕ). height_at ws (head (line_at ls x) t)) eq,
            ap (height_at ws) back.0,
            ap (height_at ws) back.1,
          )
        ]
        | inr ne ↦ f.labels i t it (ap (λ (x : ℕ). residual (line_at ls i) x t) (sym (get_or-set_other ms k i (pushed (mark_at ms k) e) 0 ne)) ∙ tk)
      ]

  push_kept : (k : ℕ) (e : Bool) → k < length ls → tail (line_at ls k) e ≡ p → falls ls ms ws k e ≡ true →
      Preflow ls (sent_over ms k e) (moved ws (tail (line_at ls k) e) (head (line_at ls k) e)) a b
      × ((n : ℕ) → left n (moved ws (tail (line_at ls k) e) (head (line_at ls k) e)) < left n ws)
  push_kept k e lt from down =
      let t = tail (line_at ls k) e in
      let h = head (line_at ls k) e in
      let parts = and_parts (eqb (height_at ws t) (height_at ws h + 1)) (arc ls ms k e) down in
      let step : height_at ws t ≡ height_at ws h + 1 = eqb-true (height_at ws t) (height_at ws h + 1) parts.0 in
      let j = joins k lt in
      let t_in = tail_below (length ws) (line_at ls k) e j in
      let h_in = head_below (length ws) (line_at ls k) e j in
      let apart = ends_apart (length ws) (line_at ls k) e j in
      let has_t : 0 < surplus_at ws t = omega (arith, ap (surplus_at ws) from) in
      let sized = moved_length ws t h t_in h_in apart has_t in
      let same = moved_height ws t h t_in h_in apart has_t in (
        record {
          marked = push_marked ls ms k e size lt parts.1 f.marked;
          account = push_account ls ms k e size lt parts.1 ws a joins f.marked f.account has_t;
          labels = λ i d it tk. omega (arith, same (tail (line_at ls i) d), same (head (line_at ls i) d), old_label k e step parts.1 i d it tk);
          top = same a ∙ f.top ∙ sym sized;
          bottom = same b ∙ f.bottom;
          low = λ q. omega (arith, same q, f.low q);
        },
        λ n. omega (arith, moved_left ws t h t_in h_in apart has_t n),
      )

  push_keeps : (ms' : List ℕ) (ws' : List SiteWork) → Pushed ls ms ws ms' ws' p → Preflow ls ms' ws' a b × ((n : ℕ) → left n ws' < left n ws)
  push_keeps ms' ws' s =
      let r = push_kept s.index s.way s.listed s.from s.down in
      subst (λ (x : List ℕ). Preflow ls x ws' a b × ((n : ℕ) → left n ws' < left n ws)) (sym s.marks_are)
      (subst (λ (x : List SiteWork). Preflow ls (sent_over ms s.index s.way) x a b × ((n : ℕ) → left n x < left n ws)) (sym s.work_is) r)

  module _ (few : length ls ≤ 512) (p_in : p < length ws) (a_in : a < length ws) (not_a : p ≡ a → ⊥) (not_b : p ≡ b → ⊥)
      (level : Level ls ms ws p (length ls)) where
    under : height_at ws p < 2 * length ws
    under = bounded ls ms ws a p size joins f.marked f.account f.labels f.top a_in p_in has

    raise_labels : Labels ls ms (raised ws p)
    raise_labels k e lt tk =
        let t = tail (line_at ls k) e in
        let h = head (line_at ls k) e in
        let t_is = raised_height ws p p_in t in
        let h_is = raised_height ws p p_in h in
        let was = f.labels k e lt tk in
        elim (cases_eq t p) [
          | inl eq ↦
              let no_fall : height_at ws t ≡ height_at ws h + 1 → ⊥ = λ step. both_ways (falls ls ms ws k e) (level k e lt eq)
              (and_from (eqb (height_at ws t) (height_at ws h + 1)) (arc ls ms k e) (eq-eqb (height_at ws t) (height_at ws h + 1) step) tk) in
              let up : one (eqb t p) ≤ 1 = grind (arith, nat_tests) in
              omega arith
          | inr ne ↦
              let still : one (eqb t p) ≡ 0 = cond-false (eqb t p) 1 0 (ne_eqb t p ne) in
              omega arith
        ]

    raise_keeps : Preflow ls ms (raised ws p) a b × (left (length ws) (raised ws p) < left (length ws) ws)
    raise_keeps =
        let at : (q : ℕ) → height_at (raised ws p) q ≡ height_at ws q + one (eqb q p) = raised_height ws p p_in in
        let sized = raised_length ws p p_in in
        let a_still : one (eqb a p) ≡ 0 = cond-false (eqb a p) 1 0 (ne_eqb a p (λ e. not_a (sym e))) in
        let b_still : one (eqb b p) ≡ 0 = cond-false (eqb b p) 1 0 (ne_eqb b p (λ e. not_b (sym e))) in
        let room = under in (
          record {
            marked = f.marked;
            account = λ q. f.account q ∙ ap (λ (x : ℕ). outs (eqb q) ls ms + x) (sym (raised_surplus ws p p_in q));
            labels = raise_labels;
            top = omega (arith, at a, f.top);
            bottom = omega (arith, at b, f.bottom);
            low = λ q. elim (cases_eq q p) [
              | inl eq ↦ let up : one (eqb q p) ≤ 1 = grind (arith, nat_tests) in omega (arith, at q, ap (height_at ws) eq)
              | inr ne ↦ let still : one (eqb q p) ≡ 0 = cond-false (eqb q p) 1 0 (ne_eqb q p ne) in omega (arith, at q, f.low q)
            ];
          },
          omega (arith, raised_left ws p p_in (length ws) under, small ls ms ws a p f.account),
        )

module _ (h : Hand) (p : ℕ) (has : 0 < surplus_at h.work.now p) where
  pub step_pushed : (ms' : List ℕ) (ws' : List SiteWork) → Pushed h.pair.net.lines.now h.marks.now h.work.now ms' ws' p →
      Stepped h.pair.net.lines.now h.marks.now h.work.now ms' ws' p
  step_pushed ms' ws' s a b a_in na nb f =
      let r = push_keeps h.pair.net.lines.now h.marks.now h.work.now a b p h.marked (joined_in h) f has ms' ws' s in
      (r.0, r.1 (length h.work.now))

  pub step_raised : (ms' : List ℕ) (ws₁ ws₂ : List SiteWork) → p < h.pair.net.sites →
      (ms' ≡ h.marks.now) × (ws₁ ≡ h.work.now) × Level h.pair.net.lines.now h.marks.now h.work.now p (length h.pair.net.lines.now) →
      ws₂ ≡ raised ws₁ p → Stepped h.pair.net.lines.now h.marks.now h.work.now ms' ws₂ p
  step_raised ms' ws₁ ws₂ p_in tried is a b a_in na nb f =
      let ls = h.pair.net.lines.now in
      let ms = h.marks.now in
      let ws = h.work.now in
      let n = length ws in
      let same : ws₂ ≡ raised ws p = is ∙ ap (λ (x : List SiteWork). raised x p) tried.1 in
      subst (λ (x : List ℕ). Preflow ls x ws₂ a b × (left n ws₂ < left n ws)) (sym tried.0)
      (subst (λ (x : List SiteWork). Preflow ls ms x a b × (left n x < left n ws)) (sym same)
      (raise_keeps ls ms ws a b p h.marked (joined_in h) f has h.pair.net.few_lines (omega (arith, h.kept)) a_in na nb tried.2))

-- one more line over which nothing goes down from p, where both its directions left marks and table as they were
pub level_more : (ls : List Line) (ms ms₁ ms₂ ms₃ : List ℕ) (ws ws₁ ws₂ ws₃ : List SiteWork) (p k : ℕ) →
    (ms₁ ≡ ms) × (ws₁ ≡ ws) × Level ls ms ws p k →
    (ms₂ ≡ ms₁) × (ws₂ ≡ ws₁) × (tail (line_at ls k) true ≡ p → falls ls ms₁ ws₁ k true ≡ false) →
    (ms₃ ≡ ms₂) × (ws₃ ≡ ws₂) × (tail (line_at ls k) false ≡ p → falls ls ms₂ ws₂ k false ≡ false) →
    (ms₃ ≡ ms) × (ws₃ ≡ ws) × Level ls ms ws p (k + 1)
level_more ls ms ms₁ ms₂ ms₃ ws ws₁ ws₂ ws₃ p k old forth back = (
  back.0 ∙ forth.0 ∙ old.0,
  back.1 ∙ forth.1 ∙ old.1,
  λ i e lt at. elim (cases_eq i k) [
    | inl eq ↦ subst (λ (x : ℕ). falls ls ms ws x e ≡ false) (sym eq) (here e (subst (λ (x : ℕ). tail (line_at ls x) e ≡ p) eq at))
    | inr ne ↦ old.2 i e (omega arith) at
  ],
)
  where
    here : (e : Bool) → tail (line_at ls k) e ≡ p → falls ls ms ws k e ≡ false
    here true at = let f = forth.2 at in cc
    here false at = let f = back.2 at in cc
