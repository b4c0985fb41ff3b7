-- The first pushes: all that the lines at a take leaves a, line by line.
use Rattle.std.proofs.Common.{◌≡◌, ℕ, ◌+◌, ◌<◌, Bool, true, false, eqb, List, length, set, sym, ap, ◌∙◌, subst, inl, inr, arith}
use Rattle.std.proofs.lemmas.List.{get_or-set_same, get_or-set_other}
use Rattle.std.proofs.lemmas.Bool.{cases_eq, eq-eqb, ne_eqb, cond-true, cond-false, both_ways}
use Rattle.network.specs.declared.line.Line.{Line}
use Rattle.network.specs.declared.engine.SiteWork.{SiteWork}
use Rattle.network.specs.Lines.{line_at, AllJoin}
use Rattle.network.specs.Flow.{mark_at, one}
use Rattle.engines.specs.declared.hand.Hand.{Hand}
use Rattle.engines.specs.Arcs.{tail, head, residual, arc, pushed, sent_over}
use Rattle.engines.specs.Heights.{height_at, surplus_at, moved, Loaded, Preflow, Fresh, Opening, Sends}
use Rattle.engines.proofs.Arcs.{head_below, tail_below, ends_apart, way_from, pushed_full, push_marked}
use Rattle.engines.proofs.Cuts.{none_out, none_in, none_marked}
use Rattle.engines.proofs.Moves.{moved_length, moved_surplus, moved_height}
use Rattle.engines.proofs.Pushes.{small, push_account}

pub opening_none : (ls : List Line) (ms : List ℕ) (ws : List SiteWork) (a : ℕ) → ((k : ℕ) → mark_at ms k ≡ 0) → Fresh ws a (length ls) → Opening ls ms ws a 0
opening_none ls ms ws a dark f =
    record {
      marked = none_marked ls ms dark;
      account = λ p.
          let o = none_out (eqb p) ls ms dark in
          let i = none_in (eqb p) ls ms dark in
          elim (cases_eq p a) [
            | inl eq ↦ let c = cond-true (eqb p a) (length ls) 0 (eq-eqb p a eq) in omega (arith, ap (surplus_at ws) eq, f.purse)
            | inr ne ↦ let c = cond-false (eqb p a) (length ls) 0 (ne_eqb p a ne) in omega (arith, f.empty p ne)
          ];
      top = f.top;
      flat = f.flat;
      done = λ j e lt. absurd (omega arith);
      unmarked = λ j _. dark j;
      purse = omega (arith, f.purse);
    }

pub opening_loaded : (h : Hand) (k : ℕ) → Opening h.pair.net.lines.now h.marks.now h.work.now h.pair.a k →
    k < length h.pair.net.lines.now → Loaded h.work.now h.pair.a
opening_loaded h k o lt =
    record {
      has = omega (arith, o.purse);
      small = λ q. omega (arith, small h.pair.net.lines.now h.marks.now h.work.now h.pair.a q o.account, h.pair.net.few_lines);
      low = λ q. elim (cases_eq q h.pair.a) [
        | inl eq ↦ omega (arith, ap (height_at h.work.now) eq, o.top, h.kept, h.pair.net.few_sites)
        | inr ne ↦ omega (arith, o.flat q ne)
      ];
    }

module _ (ls : List Line) (ms : List ℕ) (ws : List SiteWork) (a k : ℕ) (size : length ms ≡ length ls) (joins : AllJoin (length ws) ls)
    (listed : k < length ls) (o : Opening ls ms ws a k) where
  -- the direction that leaves a has taken its unit
  closed : (e : Bool) → tail (line_at ls k) e ≡ a → (i : ℕ) (t : Bool) → i < k + 1 → tail (line_at ls i) t ≡ a →
      arc ls (sent_over ms k e) i t ≡ false
  closed e from i t lt at =
      let m = pushed (mark_at ms k) e in
      elim (cases_eq i k) [
        | inl eq ↦
            let at' : tail (line_at ls k) t ≡ a = subst (λ (x : ℕ). tail (line_at ls x) t ≡ a) eq at in
            let te : t ≡ e = sym (way_from (length ws) (line_at ls k) t a (joins k listed) at') ∙ way_from (length ws) (line_at ls k) e a (joins k listed) from in
            let now_is : mark_at (set ms k m) k ≡ pushed 0 e = get_or-set_same ms k m 0 (omega arith) ∙ ap (λ (x : ℕ). pushed x e) (o.unmarked k (omega arith)) in
            subst (λ (x : ℕ). arc ls (set ms k m) x t ≡ false) (sym eq)
            (subst (λ (x : Bool). arc ls (set ms k m) k x ≡ false) (sym te)
            (ap (λ (x : ℕ). residual (line_at ls k) x e) now_is ∙ pushed_full (line_at ls k) e))
        | inr ne ↦ ap (λ (x : ℕ). residual (line_at ls i) x t) (get_or-set_other ms k i m 0 ne) ∙ o.done i t (omega arith) at
      ]

  opened : (e : Bool) → tail (line_at ls k) e ≡ a → arc ls ms k e ≡ true →
      Opening ls (sent_over ms k e) (moved ws (tail (line_at ls k) e) (head (line_at ls k) e)) a (k + 1)
  opened e from takes =
      let t = tail (line_at ls k) e in
      let h = head (line_at ls k) e in
      let j = joins k listed in
      let t_in = tail_below (length ws) (line_at ls k) e j in
      let h_in = head_below (length ws) (line_at ls k) e j in
      let apart = ends_apart (length ws) (line_at ls k) e j in
      let has : 0 < surplus_at ws t = omega (arith, ap (surplus_at ws) from, o.purse) in
      let sized = moved_length ws t h t_in h_in apart has in
      let same = moved_height ws t h t_in h_in apart has in
      let paid = moved_surplus ws t h t_in h_in apart has a in
      let at_t : one (eqb a t) ≡ 1 = cond-true (eqb a t) 1 0 (eq-eqb a t (sym from)) in
      record {
        marked = push_marked ls ms k e size listed takes o.marked;
        account = push_account ls ms k e size listed takes ws a joins o.marked o.account has;
        top = same a ∙ o.top ∙ sym sized;
        flat = λ q ne. same q ∙ o.flat q ne;
        done = λ i d lt at. closed e from i d lt at;
        unmarked = λ i le. get_or-set_other ms k i (pushed (mark_at ms k) e) 0 (λ eq. omega arith) ∙ o.unmarked i (omega arith);
        purse = omega (arith, o.purse);
      }

  passed : (tail (line_at ls k) (eqb (line_at ls k).first a) ≡ a → arc ls ms k (eqb (line_at ls k).first a) ≡ false) → Opening ls ms ws a (k + 1)
  passed no_arc =
      record {
        marked = o.marked;
        account = o.account;
        top = o.top;
        flat = o.flat;
        done = λ i t lt at. elim (cases_eq i k) [
          | inl eq ↦
              let at' : tail (line_at ls k) t ≡ a = subst (λ (x : ℕ). tail (line_at ls x) t ≡ a) eq at in
              let te : t ≡ eqb (line_at ls k).first a = sym (way_from (length ws) (line_at ls k) t a (joins k listed) at') in
              subst (λ (x : ℕ). arc ls ms x t ≡ false) (sym eq)
              (subst (λ (x : Bool). arc ls ms k x ≡ false) (sym te) (no_arc (ap (tail (line_at ls k)) (sym te) ∙ at')))
          | inr ne ↦ o.done i t (omega arith) at
        ];
        unmarked = λ i le. o.unmarked i (omega arith);
        purse = omega (arith, o.purse);
      }

  pub opening_more : (ms' : List ℕ) (ws' : List SiteWork) (hit : Bool) → Sends ls ms ws ms' ws' a k (eqb (line_at ls k).first a) hit → Opening ls ms' ws' a (k + 1)
  opening_more ms' ws' true s =
      subst (λ (x : List ℕ). Opening ls x ws' a (k + 1)) (sym s.2)
      (subst (λ (x : List SiteWork). Opening ls (sent_over ms k (eqb (line_at ls k).first a)) x a (k + 1)) (sym s.3)
      (opened (eqb (line_at ls k).first a) s.0 s.1))
  opening_more ms' ws' false s =
      subst (λ (x : List ℕ). Opening ls x ws' a (k + 1)) (sym s.0) (subst (λ (x : List SiteWork). Opening ls ms x a (k + 1)) (sym s.1) (passed s.2))

pub opening_all : (ls : List Line) (ms : List ℕ) (ws : List SiteWork) (a b : ℕ) → (a ≡ b → ⊥) → Opening ls ms ws a (length ls) → Preflow ls ms ws a b
opening_all ls ms ws a b apart o =
    record {
      marked = o.marked;
      account = o.account;
      labels = λ k e lt tk. elim (cases_eq (tail (line_at ls k) e) a) [
        | inl eq ↦ absurd (both_ways (arc ls ms k e) (o.done k e lt eq) tk)
        | inr ne ↦ omega (arith, o.flat (tail (line_at ls k) e) ne)
      ];
      top = o.top;
      bottom = o.flat b (λ e. apart (sym e));
      low = λ p. elim (cases_eq p a) [
        | inl eq ↦ omega (arith, ap (height_at ws) eq, o.top)
        | inr ne ↦ omega (arith, o.flat p ne)
      ];
    }
