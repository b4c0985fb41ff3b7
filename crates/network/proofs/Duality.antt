-- Marks that carry v from a to b: no set of places that parts the two is crossed by fewer than v free lines, so that
-- the value that an engine answers is the level.
use Rattle.std.proofs.Common.{◌≡◌, ℕ, ◌+◌, ◌<◌, ◌≤◌, Bool, true, false, cond, not, ◌≢◌, List, IfSome, Option, Some, None, refl, sym, ap, inl, inr, arith}
use Rattle.std.proofs.lemmas.Bool.{cases_Bool}
use Rattle.std.proofs.lemmas.Bool.Decides.{nat_tests}
use Rattle.network.specs.declared.line.Line.{Line}
use Rattle.network.specs.declared.engine.Flow.{Flow}
use Rattle.network.specs.declared.engine.SiteWork.{SiteWork}
use Rattle.network.specs.Lines.{line_at, Joins, AllJoin}
use Rattle.network.specs.Cuts.{crosses, crossing_by, level_of}
use Rattle.network.specs.Flow.{mark_at, one, leaves, arrives, outs, ins, Marked}
use Rattle.network.specs.Answers.{PartedBy, Carries, Answer}
use Rattle.network.specs.Laws.{ValueIsLevel}
use Rattle.network.proofs.Crossing.{crossing_not}
use Rattle.network.proofs.Ties.{Tied, differ_yes, differ_no, differ_parts}
use Rattle.network.proofs.Levels.{count_of, level_le, level_from_tied}
use Rattle.network.proofs.Sums.{below, cut, sum_marked_most, sum_marked_count_le}

-- a line takes no more out of the set than it brings, but for one where it crosses
any_line : (P : ℕ → Bool) (n : ℕ) (l : Line) (m : ℕ) → Joins n l → Marked l m → leaves (below P n) l m ≤ arrives (below P n) l m + one (crosses P l)
any_line P n l m j k = grind (arith, nat_tests)

-- marks carry no more from a to b than the free lines that cross a set with a and without b; a line past the last mark
-- counts as unused
pub no_more : (P : ℕ → Bool) (n : ℕ) (ls : List Line) (ms : List ℕ) (a b v : ℕ) → AllJoin n ls → Carries ls ms a b v →
    a < n → P a ≡ true → P b ≡ false → v ≤ crossing_by P ls
unfolding outs ins crossing_by
no_more P n ls ms a b v joins c in_a has_a lacks_b =
    let whole = cut P ls ms a b v n c.balanced in
    let split = sum_marked_most (leaves (below P n)) (arrives (below P n)) (λ l _. one (crosses P l)) ls ms
    (λ p lt _. any_line P n (line_at ls p) (mark_at ms p) (joins p lt) (c.marked p lt)) in
    let count = sum_marked_count_le (crosses P) ls ms in
    let at_a : cond (below P n a) v 0 ≡ v = grind (arith, nat_tests) in
    let at_b : cond (below P n b) v 0 ≡ 0 = grind (arith, nat_tests) in
    omega arith

pub tied_from_marks : (n : ℕ) (ls : List Line) (ms : List ℕ) (a b v : ℕ) → AllJoin n ls → Carries ls ms a b v → a < n → Tied (count_of ls) v a b
unfolding Tied
tied_from_marks n ls ms a b v joins c la m d =
    elim (cases_Bool (m a)) [
      | inl p ↦ no_more m n ls ms a b v joins c la p (differ_yes _ _ d p)
      | inr p ↦ rw (← crossing_not m ls) (no_more (λ i. not (m i)) n ls ms a b v joins c la (ap not p) (ap not (differ_no _ _ d p)))
    ]

-- marks that carry v and a side that v free lines cross show that the level is v
pub level_is : (n : ℕ) (ls : List Line) (ms : List ℕ) (a b v s : ℕ) → AllJoin n ls → Carries ls ms a b v → a < n → b < n → a ≢ b →
    PartedBy n ls a b v s → level_of n ls a b ≡ v
level_is n ls ms a b v s joins c la lb ne p =
    let parts = differ_parts _ _ p.has_a p.lacks_b in
    let low = level_le n ls a b s p.within parts in
    let high = level_from_tied n ls v a b la lb ne (tied_from_marks n ls ms a b v joins c la) in
    let e = p.crossed in
    omega arith

-- .. as it is where an engine answers
pub level_answered : (n : ℕ) (ls : List Line) (a b : ℕ) (ms ms' : List ℕ) (ws ws' : List SiteWork) (r : Option Flow) →
    Answer n ls a b ms ms' ws ws' r → IfSome r (λ f. f.value ≡ level_of n ls a b)
level_answered n ls a b ms ms' ws ws' None ans = tt
level_answered n ls a b ms ms' ws ws' (Some f) ans =
    let t = ans.0 in
    sym (level_is n ls ms' a b f.value f.side t.joined ans.1.carried t.a_within t.b_within t.apart ans.1.parted)

pub value_is_level : ValueIsLevel
value_is_level n ls a b ms ms' ws ws' None ans t = absurd (ans.0 t)
value_is_level n ls a b ms ms' ws ws' (Some f) ans t = (f, refl, level_answered n ls a b ms ms' ws ws' (Some f) ans)
