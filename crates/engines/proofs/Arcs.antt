-- Arcs: their ends, and what one unit over an arc changes.
use Rattle.std.proofs.Common.{◌≡◌, ℕ, ◌+◌, ◌<◌, ◌≤◌, Bool, true, false, eqb, ◌⊎◌, List, length, set, sym, refl, ◌∙◌, subst, inl, inr, arith}
use Rattle.std.proofs.lemmas.List.{get_or-set_same, get_or-set_other}
use Rattle.std.proofs.lemmas.Bool.{cases_eq, eq-eqb, ne_eqb}
use Rattle.std.proofs.lemmas.Bool.Decides.{nat_tests}
use Rattle.network.specs.declared.line.Line.{Line}
use Rattle.network.specs.Lines.{line_at, Joins, AllJoin}
use Rattle.network.specs.Flow.{mark_at, one, leaves, arrives, outs, ins, Marked, AllMarked}
use Rattle.network.proofs.Sums.{sum_marked_set}
use Rattle.engines.specs.declared.residual.Way.{Way}
use Rattle.engines.specs.declared.hand.Hand.{Hand}
use Rattle.engines.specs.Arcs.{tail, head, residual, arc, pushed, sent_over}

pub head_below : (n : ℕ) (l : Line) (e : Bool) → Joins n l → head l e < n
head_below n l true j = j.1
head_below n l false j = j.0

pub tail_below : (n : ℕ) (l : Line) (e : Bool) → Joins n l → tail l e < n
tail_below n l true j = j.0
tail_below n l false j = j.1

pub ends_apart : (n : ℕ) (l : Line) (e : Bool) → Joins n l → tail l e ≡ head l e → ⊥
ends_apart n l true j h = j.2 h
ends_apart n l false j h = j.2 (sym h)

-- the lines join places of a table that is as long
pub joins_at : (n m : ℕ) (ls : List Line) → m ≡ n → AllJoin n ls → AllJoin m ls
joins_at n m ls e j = subst (λ (x : ℕ). AllJoin x ls) (sym e) j

pub joined_in : (h : Hand) → AllJoin (length h.work.now) h.pair.net.lines.now
joined_in h = joins_at h.pair.net.sites (length h.work.now) h.pair.net.lines.now h.kept h.pair.net.joined

-- what holds of a way's line and direction, where both are known
pub over_by : (P : ℕ → Bool → Type 0) (w : Way) (k : ℕ) (e : Bool) → w ≡ record { line = k; from_first = e } → P w.line w.from_first → P k e
over_by P w k e is h = subst (λ (x : Way). P x.line x.from_first) is h

-- two directions of a line are one, or the second leads back
pub turned : (l : Line) (e t : Bool) → (t ≡ e) ⊎ ((head l t ≡ tail l e) × (tail l t ≡ head l e))
turned l true true = inl refl
turned l true false = inr (refl, refl)
turned l false true = inr (refl, refl)
turned l false false = inl refl

-- the direction in which a line leads to a place, and the one in which it comes from it
pub way_to : (n : ℕ) (l : Line) (e : Bool) (c : ℕ) → Joins n l → head l e ≡ c → eqb l.second c ≡ e
way_to n l true c j h = eq-eqb l.second c h
way_to n l false c j h = ne_eqb l.second c (λ eq. j.2 (h ∙ sym eq))

pub way_from : (n : ℕ) (l : Line) (e : Bool) (c : ℕ) → Joins n l → tail l e ≡ c → eqb l.first c ≡ e
way_from n l true c j h = eq-eqb l.first c h
way_from n l false c j h = ne_eqb l.first c (λ eq. j.2 (eq ∙ sym h))

-- an unused line that has taken a unit takes no second one
pub pushed_full : (l : Line) (e : Bool) → residual l (pushed 0 e) e ≡ false
pushed_full l true = grind (arith, nat_tests)
pushed_full l false = grind (arith, nat_tests)

pushed_marked : (l : Line) (m : ℕ) (e : Bool) → residual l m e ≡ true → Marked l (pushed m e)
pushed_marked l m true r = (grind (arith, nat_tests), grind (arith, nat_tests))
pushed_marked l m false r = (grind (arith, nat_tests), grind (arith, nat_tests))

-- one unit over one line, at the places of the set P
push_line : (P : ℕ → Bool) (l : Line) (m : ℕ) (e : Bool) → m ≤ 2 → residual l m e ≡ true →
    leaves P l (pushed m e) + arrives P l m + one (P (head l e)) ≡ leaves P l m + arrives P l (pushed m e) + one (P (tail l e))
push_line P l m true le r = grind (arith, nat_tests)
push_line P l m false le r = grind (arith, nat_tests)

module _ (ls : List Line) (ms : List ℕ) (k : ℕ) (e : Bool) (size : length ms ≡ length ls) (listed : k < length ls)
    (takes : arc ls ms k e ≡ true) (marked : AllMarked ls ms) where
  pub push_net : (P : ℕ → Bool) →
      outs P ls (sent_over ms k e) + ins P ls ms + one (P (head (line_at ls k) e))
      ≡ outs P ls ms + ins P ls (sent_over ms k e) + one (P (tail (line_at ls k) e))
  unfolding outs ins
  push_net P =
      let m = pushed (mark_at ms k) e in
      let inside : k < length ms = omega arith in
      omega (
        arith,
        push_line P (line_at ls k) (mark_at ms k) e (marked k listed).0 takes,
        sum_marked_set (leaves P) ls ms k m listed inside,
        sum_marked_set (arrives P) ls ms k m listed inside,
      )

  pub push_marked : AllMarked ls (sent_over ms k e)
  push_marked j lt =
      let m = pushed (mark_at ms k) e in
      elim (cases_eq j k) [
        | inl eq ↦ subst (λ (x : ℕ). Marked (line_at ls x) (mark_at (set ms k m) x)) (sym eq)
            (subst (λ (x : ℕ). Marked (line_at ls k) x) (sym (get_or-set_same ms k m 0 (omega arith))) (pushed_marked (line_at ls k) (mark_at ms k) e takes))
        | inr ne ↦ subst (λ (x : ℕ). Marked (line_at ls j) x) (sym (get_or-set_other ms k j m 0 ne)) (marked j lt)
      ]
