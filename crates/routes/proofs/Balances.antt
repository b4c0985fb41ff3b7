-- What leaves a place and what comes to it, counted line by line.
use Rattle.std.proofs.Common.{◌≡◌, ℕ, ◌<◌, ◌≤◌, Bool, true, false, eqb, ◌≢◌, List, [], ◌∷◌, length, get_or, cond, count_by, None, Some, Option, MatchOption, MatchBool, IsSome, sym, refl, ◌∙◌, subst, inl, inr, arith, rules}
use Rattle.std.specs.List.{zip, range_with_len, AllWithin, HoldsAt}
use Rattle.std.proofs.lemmas.Bool.{ne_eqb, eq-eqb, cond-true, cond-false, cases_lt, false≢true}
use Rattle.std.proofs.lemmas.List.{get_or_past}
use Rattle.std.proofs.lemmas.List.FromFn.{length-range_with_len, get_or-range_with_len}
use Rattle.std.proofs.lemmas.Slice.Zip.{length-zip, get_or-zip}
use Rattle.std.proofs.Math.Nat.{zero-add}
use Rattle.std.proofs.lemmas.List.Sums.{sum_by-cons}
use Rattle.std.proofs.lemmas.Bool.Decides.{nat_tests}
use Rattle.network.specs.declared.line.Line.{Line}
use Rattle.network.specs.declared.pair.Pair.{Pair}
use Rattle.network.specs.Lines.{no_line, line_at, AllJoin}
use Rattle.network.specs.Flow.{sum_marked, leaves, arrives, outs, ins, Balanced, Marked, AllMarked}
use Rattle.network.proofs.Sums.{sum_marked_zero, outs_le}
use Rattle.routes.specs.declared.arcs.End.{End}
use Rattle.routes.specs.declared.arcs.End.TheVariants.{From, To}
use Rattle.routes.specs.declared.marking.Marking.{Marking}
use Rattle.routes.specs.Ends.{counts_at, carried_at}
use Rattle.routes.specs.Shapes.{PairOf, Ready, Sized, BalancedAt}
use Rattle.routes.specs.Taking.{Fit, FitBy}

at_most_one : (e : End) (q : ℕ) (l : Line) (m : ℕ) → counts_at e (eqb q) l m ≤ 1
at_most_one From q l m = grind (arith, nat_tests)
at_most_one To q l m = grind (arith, nat_tests)

count_marked : (f : Line → ℕ → ℕ) → ((l : Line) (m : ℕ) → f l m ≤ 1) → (ls : List Line) (ms : List ℕ) →
    count_by (λ (p : Line × ℕ). eqb (f p.0 p.1) 1) (zip ls ms) ≡ sum_marked f ls ms
count_marked f few [] ms = refl
count_marked f few (l ∷ ls) [] = refl
count_marked f few (l ∷ ls) (m ∷ ms) =
    let once : cond (eqb (f l m) 1) 1 0 ≡ f l m = (let most = few l m in grind (arith, nat_tests)) in
    omega (arith, once, count_marked f few ls ms, sum_by-cons (λ (p : Line × ℕ). cond (eqb (f p.0 p.1) 1) 1 0) (l, m) (zip ls ms))

-- the lines that carry with one end at a place, counted
pub carried_is : (e : End) (q : ℕ) (ls : List Line) (ms : List ℕ) → count_by (λ (p : Line × ℕ). eqb (counts_at e (eqb q) p.0 p.1) 1) (zip ls ms) ≡ carried_at e (eqb q) ls ms
unfolding outs ins
carried_is From q ls ms = count_marked (leaves (eqb q)) (at_most_one From q) ls ms
carried_is To q ls ms = count_marked (arrives (eqb q)) (at_most_one To q) ls ms

-- nothing leaves or comes to a place that is none of the network's
module _ (n : ℕ) (ls : List Line) (ms : List ℕ) (q : ℕ) (net : AllJoin n ls) (past : n ≤ q) where
  no_first : (p : ℕ) → p < length ls → eqb q (line_at ls p).first ≡ false
  no_first p l = ne_eqb q (line_at ls p).first (λ e. omega (arith, (net p l).0, e))

  no_second : (p : ℕ) → p < length ls → eqb q (line_at ls p).second ≡ false
  no_second p l = ne_eqb q (line_at ls p).second (λ e. omega (arith, (net p l).1, e))

  pub outs_outside : outs (eqb q) ls ms ≡ 0
  unfolding outs
  outs_outside = sum_marked_zero (leaves (eqb q)) ls ms (λ p l _. let f = no_first p l in let s = no_second p l in grind (arith, nat_tests))

  pub ins_outside : ins (eqb q) ls ms ≡ 0
  unfolding ins
  ins_outside = sum_marked_zero (arrives (eqb q)) ls ms (λ p l _. let f = no_first p l in let s = no_second p l in grind (arith, nat_tests))

  pub balanced_outside : (a b v : ℕ) → a < n → b < n → BalancedAt ls ms a b v q
  balanced_outside a b v la lb =
      omega (arith, outs_outside, ins_outside, cond-false (eqb q b) v 0 (ne_eqb q b (λ e. omega arith)), cond-false (eqb q a) v 0 (ne_eqb q a (λ e. omega arith)))

-- what `all` answers of a test of P over a list
decided : {X : Type 0} (P : X → Type 0) (zs : List X) (d : X) (Q : Type 0) → (((k : ℕ) → k < length zs → P (get_or zs k d)) → Q) →
    (Q → (k : ℕ) → k < length zs → P (get_or zs k d)) → (r : Bool) →
    MatchBool r (AllWithin P zs 0 (length zs)) ((k : ℕ) × (k < length zs) × HoldsAt (λ z. P z → ⊥) zs k) → (r ≡ true → Q) × (Q → r ≡ true)
decided P zs d Q to from true h = (λ _. to (λ k l. h k d (omega arith) l), λ _. refl)
decided P zs d Q to from false h = (λ e. absurd (false≢true e), λ q. absurd (h.2 d (from q h.0 h.1)))

-- .. over the places of a network
pub balanced_decided : (n : ℕ) (ls : List Line) (ms : List ℕ) (a b v : ℕ) → AllJoin n ls → a < n → b < n → (r : Bool) →
    MatchBool r (AllWithin (BalancedAt ls ms a b v) (range_with_len 0 n) 0 (length (range_with_len 0 n)))
    ((k : ℕ) × (k < length (range_with_len 0 n)) × HoldsAt (λ p. BalancedAt ls ms a b v p → ⊥) (range_with_len 0 n) k)
    → (r ≡ true → Balanced ls ms a b v) × (Balanced ls ms a b v → r ≡ true)
balanced_decided n ls ms a b v net la lb = decided (BalancedAt ls ms a b v) (range_with_len 0 n) 0 (Balanced ls ms a b v)
    (λ h p. elim (cases_lt p n) [
      | inl l ↦ subst (BalancedAt ls ms a b v) (get_or-range_with_len 0 n p 0 l ∙ zero-add p) (h p (omega (arith, length-range_with_len 0 n)))
      | inr l ↦ balanced_outside n ls ms p net l a b v la lb
    ])
    (λ h k _. h (get_or (range_with_len 0 n) k 0))

-- .. and over the lines with their marks; past the last mark a line counts as unused
pub marked_decided : (ls : List Line) (ms : List ℕ) (r : Bool) →
    MatchBool r (AllWithin (λ (p : Line × ℕ). Marked p.0 p.1) (zip ls ms) 0 (length (zip ls ms)))
    ((k : ℕ) × (k < length (zip ls ms)) × HoldsAt (λ (p : Line × ℕ). Marked p.0 p.1 → ⊥) (zip ls ms) k)
    → (r ≡ true → AllMarked ls ms) × (AllMarked ls ms → r ≡ true)
marked_decided ls ms = decided (λ (p : Line × ℕ). Marked p.0 p.1) (zip ls ms) (no_line, 0) (AllMarked ls ms)
    (λ h p l. elim (cases_lt p (length ms)) [
      | inl g ↦ subst (λ (z : Line × ℕ). Marked z.0 z.1) (get_or-zip ls ms p (no_line, 0) l g) (h p (omega (arith, length-zip ls ms)))
      | inr g ↦ rw (get_or_past ms p 0 g) (omega arith, λ _. refl)
    ])
    (λ h k l. (let n = length-zip ls ms in
    subst (λ (z : Line × ℕ). Marked z.0 z.1) (sym (get_or-zip ls ms k (no_line, 0) (omega arith) (omega arith))) (h k (omega arith))))

-- where some line carries to a place, a search of the lines with their marks finds one
pub arrival_found : (q : ℕ) (ls : List Line) (ms : List ℕ) (r : Option ℕ) → 0 < ins (eqb q) ls ms →
    MatchOption r (AllWithin (λ (p : Line × ℕ). arrives (eqb q) p.0 p.1 ≡ 0) (zip ls ms) 0 (length (zip ls ms)))
    (λ i. (i < length (zip ls ms)) × HoldsAt (λ (p : Line × ℕ). arrives (eqb q) p.0 p.1 ≡ 1) (zip ls ms) i
    × AllWithin (λ (p : Line × ℕ). arrives (eqb q) p.0 p.1 ≡ 0) (zip ls ms) 0 i)
    → IsSome r
unfolding ins
arrival_found q ls ms None some none = absurd (let z : ⊥ = omega (
  arith,
  some,
  sum_marked_zero (arrives (eqb q)) ls ms
      (λ p l g. (let n = length-zip ls ms in
      subst (λ (z : Line × ℕ). arrives (eqb q) z.0 z.1 ≡ 0) (get_or-zip ls ms p (no_line, 0) l g) (none p (no_line, 0) (omega arith) (omega arith)))),
) in z)
arrival_found q ls ms (Some i) some found = search rules

pub not_one : (l : Line) (m q : ℕ) → eqb (arrives (eqb q) l m) 1 ≡ false → arrives (eqb q) l m ≡ 0
not_one l m q h = let few = at_most_one To q l m in grind (arith, nat_tests)

-- no more is carried than there are lines
pub value_le : (ls : List Line) (ms : List ℕ) (a b v : ℕ) → a ≢ b → Balanced ls ms a b v → v ≤ length ls
value_le ls ms a b v ne h =
    omega (arith, h a, outs_le (eqb a) ls ms, cond-true (eqb a a) v 0 (eq-eqb a a refl), cond-false (eqb a b) v 0 (ne_eqb a b ne))

-- ready marks are sized so
pub ready_sized : (q : Pair) (ms : List ℕ) (v k : ℕ) → Ready q ms v k → Sized q.net.lines.now ms v k
ready_sized q ms v k h =
    record { marks_room = h.marks_room; enough = h.enough; small = value_le q.net.lines.now ms q.a q.b v q.apart h.carried.balanced }

-- .. and so are the numbers of a fit call
pub fit_sized : (m : Marking) (k : ℕ) → FitBy m k → Sized m.lines.now m.marks.now m.value k
fit_sized m k h =
    record { marks_room = h.marks_room; enough = h.enough; small = value_le m.lines.now m.marks.now m.a m.b m.value h.apart h.carried.balanced }

module _ (m : Marking) (q : Pair) (of : PairOf m q) where
  -- what is said of the pair is said of the marking's places
  pub of_pair : (P : ℕ → List Line → ℕ → ℕ → Type 0) → P q.net.sites q.net.lines.now q.a q.b → P m.sites m.lines.now m.a m.b
  of_pair P p =
      subst (λ n. P n m.lines.now m.a m.b) of.sites
      (subst (λ ls. P q.net.sites ls m.a m.b) of.lines
      (subst (λ a. P q.net.sites q.net.lines.now a m.b) of.first
      (subst (λ b. P q.net.sites q.net.lines.now q.a b) of.second p)))

  to_pair : (P : ℕ → List Line → ℕ → ℕ → Type 0) → P m.sites m.lines.now m.a m.b → P q.net.sites q.net.lines.now q.a q.b
  to_pair P = of_pair (λ n ls a b. P n ls a b → P q.net.sites q.net.lines.now q.a q.b) (λ p. p)

  -- a call is fit where the marks are ready for its pair
  pub ready_fit : (k : ℕ) → Ready q m.marks.now m.value k → FitBy m k
  ready_fit k h =
      of_pair (λ n ls a b. Fit n ls m.marks.now a b m.value k)
      record {
        few_sites = q.net.few_sites;
        few_lines = q.net.few_lines;
        apart = q.apart;
        a_within = q.a_within;
        b_within = q.b_within;
        joined = q.net.joined;
        marks_room = h.marks_room;
        carried = h.carried;
        enough = h.enough;
      }

  pub fit_ready : (k : ℕ) → FitBy m k → Ready q m.marks.now m.value k
  fit_ready k h =
      let fit = to_pair (λ n ls a b. Fit n ls m.marks.now a b m.value k) h in
      record { marks_room = fit.marks_room; carried = fit.carried; enough = fit.enough }
