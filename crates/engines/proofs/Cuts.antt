-- Where no arc leaves a set of places, the free lines that cross it count what the marks carry out of it.
use Rattle.std.proofs.Common.{◌≡◌, ℕ, ◌+◌, ◌^◌, ◌<◌, ◌≤◌, Bool, true, false, cond, not, eqb, List, ◌++◌, length, drop, Some, sym, ap, ◌∙◌, subst, inl, inr, arith}
use Rattle.std.proofs.lemmas.List.{drop_all, drop_at, get_or_past, get_or_append_left}
use Rattle.std.proofs.lemmas.Bool.{cases_lt}
use Rattle.std.proofs.lemmas.Bool.Decides.{nat_tests}
use Rattle.network.specs.declared.line.Line.{Line}
use Rattle.network.specs.declared.engine.SiteWork.{SiteWork}
use Rattle.network.specs.declared.engine.Flow.{Flow}
use Rattle.network.specs.declared.pair.Pair.{Pair}
use Rattle.network.specs.Lines.{line_at, Joins, AllJoin}
use Rattle.network.specs.Sides.{member}
use Rattle.network.specs.Cuts.{crosses, crossing_by}
use Rattle.network.specs.Flow.{mark_at, one, leaves, arrives, outs, ins, Marked, AllMarked, Balanced}
use Rattle.network.specs.Answers.{Task, Flows, Answer}
use Rattle.network.proofs.Sums.{sum_marked_plus, sum_marked_zero, sum_marked_count, outs_le, outs_front, ins_front, below, cut}
use Rattle.engines.specs.declared.hand.Hand.{Hand}
use Rattle.engines.specs.Arcs.{tail, head, residual, arc}
use Rattle.engines.specs.Search.{seen_at, Stuck}
use Rattle.engines.proofs.Arcs.{head_below, tail_below}

-- no arc leaves the set
abbrev pub Closed : List Line → List ℕ → (ℕ → Bool) → Type 0
Closed ls ms P = (k : ℕ) (e : Bool) → k < length ls → P (tail (line_at ls k) e) ≡ true → arc ls ms k e ≡ true → P (head (line_at ls k) e) ≡ true

shut_line : (P : ℕ → Bool) (n : ℕ) (l : Line) (m : ℕ) → Joins n l → Marked l m →
    ((e : Bool) → P (tail l e) ≡ true → residual l m e ≡ true → P (head l e) ≡ true) →
    leaves (below P n) l m ≡ arrives (below P n) l m + one (crosses P l)
shut_line P n l m j k shut =
    let out = shut true in let back = shut false in
    grind (arith, nat_tests)

pub shut_cut : (P : ℕ → Bool) (n : ℕ) (ls : List Line) (ms : List ℕ) → length ms ≡ length ls → AllJoin n ls → AllMarked ls ms → Closed ls ms P →
    outs (below P n) ls ms ≡ ins (below P n) ls ms + crossing_by P ls
unfolding outs ins crossing_by
shut_cut P n ls ms size joins marked shut =
    let split = sum_marked_plus (leaves (below P n)) (arrives (below P n)) (λ l _. one (crosses P l)) ls ms
    (λ k lt _. shut_line P n (line_at ls k) (mark_at ms k) (joins k lt) (marked k lt) (λ e. shut k e lt)) in
    let count = sum_marked_count (crosses P) ls ms (omega arith) in
    omega arith

-- .. and where it holds a and not b, that is what goes from a to b
pub crossings : (P : ℕ → Bool) (n : ℕ) (ls : List Line) (ms : List ℕ) (a b v : ℕ) → length ms ≡ length ls → AllJoin n ls → AllMarked ls ms →
    Balanced ls ms a b v → a < n → P a ≡ true → P b ≡ false → Closed ls ms P → crossing_by P ls ≡ v
crossings P n ls ms a b v size joins marked bal in_a has_a lacks_b shut =
    let at_a : cond (below P n a) v 0 ≡ v = grind (arith, nat_tests) in
    let at_b : cond (below P n b) v 0 ≡ 0 = grind (arith, nat_tests) in
    omega (arith, cut P ls ms a b v n bal, shut_cut P n ls ms size joins marked shut)

pub value_le : (ls : List Line) (ms : List ℕ) (a b v : ℕ) → Balanced ls ms a b v → (a ≡ b → ⊥) → v ≤ length ls
value_le ls ms a b v bal ne =
    let at_a : cond (eqb a a) v 0 ≡ v = grind (arith, nat_tests) in
    let at_b : cond (eqb a b) v 0 ≡ 0 = grind (arith, nat_tests) in
    omega (arith, outs_le (eqb a) ls ms, bal a)

-- past the last mark every line counts as unused
pub all_unused : (ms : List ℕ) → ((k : ℕ) → k < length ms → mark_at ms k ≡ 0) → (k : ℕ) → mark_at ms k ≡ 0
all_unused ms dark k = elim (cases_lt k (length ms)) [ inl lt ↦ dark k lt | inr le ↦ get_or_past ms k 0 le ]

-- unused lines carry nothing
pub none_out : (P : ℕ → Bool) (ls : List Line) (ms : List ℕ) → ((k : ℕ) → mark_at ms k ≡ 0) → outs P ls ms ≡ 0
unfolding outs
none_out P ls ms dark = sum_marked_zero (leaves P) ls ms (λ k _ _. ap (leaves P (line_at ls k)) (dark k))

pub none_in : (P : ℕ → Bool) (ls : List Line) (ms : List ℕ) → ((k : ℕ) → mark_at ms k ≡ 0) → ins P ls ms ≡ 0
unfolding ins
none_in P ls ms dark = sum_marked_zero (arrives P) ls ms (λ k _ _. ap (arrives P (line_at ls k)) (dark k))

pub none_balanced : (ls : List Line) (ms : List ℕ) (a b : ℕ) → ((k : ℕ) → mark_at ms k ≡ 0) → Balanced ls ms a b 0
none_balanced ls ms a b dark p =
    let at_a : ◌≡◌ {A = ℕ} (cond (eqb p a) 0 0) 0 = grind (arith, nat_tests) in
    let at_b : ◌≡◌ {A = ℕ} (cond (eqb p b) 0 0) 0 = grind (arith, nat_tests) in
    omega (arith, none_out (eqb p) ls ms dark, none_in (eqb p) ls ms dark)

pub none_marked : (ls : List Line) (ms : List ℕ) → ((k : ℕ) → mark_at ms k ≡ 0) → AllMarked ls ms
none_marked ls ms dark k _ = (omega (arith, dark k), λ _. dark k)

-- a search that is stuck answers: the side of the places that it has seen
pub answered : (h : Hand) (ms₀ : List ℕ) (v side : ℕ) → length ms₀ ≡ length h.pair.net.lines.now →
    AllMarked h.pair.net.lines.now h.marks.now → Balanced h.pair.net.lines.now h.marks.now h.pair.a h.pair.b v → Stuck h.pair.net.lines.now h.marks.now h.work.now h.pair.a h.pair.b →
    side < 2 ^ length h.work.now → ((p : ℕ) → p < length h.work.now → member side p ≡ not (eqb (seen_at h.work.now p) 0)) →
    Flows h.pair.net.sites h.pair.net.lines.now h.pair.a h.pair.b ms₀ h.marks.now v side
answered h ms₀ v side sized₀ marked bal stuck low places =
    record {
      parted = record {
        has_a = has_a;
        lacks_b = dark;
        within = subst (λ (x : ℕ). side < 2 ^ x) h.kept low;
        crossed = crossings (member side) h.pair.net.sites ls h.marks.now h.pair.a h.pair.b v h.marked h.pair.net.joined marked bal h.pair.a_within has_a dark
            (λ k e lt at tk. held (head (line_at ls k) e) (head_below h.pair.net.sites (line_at ls k) e (h.pair.net.joined k lt))
            (stuck.shut k e lt (lit (tail (line_at ls k) e) (tail_below h.pair.net.sites (line_at ls k) e (h.pair.net.joined k lt)) at) tk));
      };
      carried = record { marked = marked; balanced = bal };
      rest = drop_all (length ls) h.marks.now (omega (arith, h.marked)) ∙ sym (drop_all (length ls) ms₀ (omega arith));
    }
  where
    ls : List Line
    ls = h.pair.net.lines.now

    is_lit : (t : Bool) (s : ℕ) → t ≡ not (eqb s 0) → t ≡ true → 0 < s
    is_lit t s e h = grind (arith, nat_tests)

    is_held : (t : Bool) (s : ℕ) → t ≡ not (eqb s 0) → 0 < s → t ≡ true
    is_held t s e h = grind (arith, nat_tests)

    is_dark : (t : Bool) (s : ℕ) → t ≡ not (eqb s 0) → s ≡ 0 → t ≡ false
    is_dark t s e h = grind (arith, nat_tests)

    lit : (p : ℕ) → p < h.pair.net.sites → member side p ≡ true → 0 < seen_at h.work.now p
    lit p lt = is_lit (member side p) (seen_at h.work.now p) (places p (omega (arith, h.kept)))

    held : (p : ℕ) → p < h.pair.net.sites → 0 < seen_at h.work.now p → member side p ≡ true
    held p lt = is_held (member side p) (seen_at h.work.now p) (places p (omega (arith, h.kept)))

    has_a : member side h.pair.a ≡ true
    has_a = held h.pair.a h.pair.a_within stuck.lit

    dark : member side h.pair.b ≡ false
    dark = is_dark (member side h.pair.b) (seen_at h.work.now h.pair.b) (places h.pair.b (omega (arith, h.kept, h.pair.b_within))) stuck.dark

-- an answer over the front of the marks, just as many as there are lines, is one over all of them
pub widened : (q : Pair) (n : ℕ) (ls : List Line) (a b : ℕ) (ms front after : List ℕ) (ws ws' : List SiteWork) (f : Flow) →
    Task n ls a b ms ws → length after ≡ length ls → (q.net.sites ≡ n) × (q.net.lines.now ≡ ls) × (q.a ≡ a) × (q.b ≡ b) →
    Flows q.net.sites q.net.lines.now q.a q.b front after f.value f.side → Answer n ls a b ms (after ++ drop (length ls) ms) ws ws' (Some f)
widened q n ls a b ms front after ws ws' f task size is flows = (task, whole)
  where
    here : Flows n ls a b front after f.value f.side
    here = subst (λ (x : ℕ). Flows x ls a b front after f.value f.side) is.0
        (subst (λ (x : List Line). Flows q.net.sites x a b front after f.value f.side) is.1
        (subst (λ (x : ℕ). Flows q.net.sites q.net.lines.now x b front after f.value f.side) is.2
        (subst (λ (x : ℕ). Flows q.net.sites q.net.lines.now q.a x front after f.value f.side) is.3 flows)))

    whole : Flows n ls a b ms (after ++ drop (length ls) ms) f.value f.side
    whole =
        let past = drop (length ls) ms in
        record {
          parted = here.parted;
          carried = record {
            marked = λ j lt. subst (λ (x : ℕ). Marked (line_at ls j) x) (sym (get_or_append_left after past 0 j (omega arith))) (here.carried.marked j lt);
            balanced = λ p. omega (arith, outs_front (eqb p) ls after past (omega arith), ins_front (eqb p) ls after past (omega arith), here.carried.balanced p);
          };
          rest = drop_at after past (length ls) size;
        }
