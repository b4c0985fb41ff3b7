-- Sums over the lines, each with its mark; what leaves and what comes to a set of places.
use Rattle.std.proofs.Common.{◌≡◌, ℕ, zero, suc, ◌+◌, ◌<◌, ◌≤◌, Bool, true, false, cond, ◌&&◌, eqb, ltb, List, [], ◌∷◌, ◌++◌, length, set, count_by, refl, ap, ◌∙◌, arith}
use Rattle.std.proofs.lemmas.List.Sums.{sum_by-cons}
use Rattle.std.proofs.lemmas.Bool.Decides.{nat_tests}
use Rattle.network.specs.declared.line.Line.{Line}
use Rattle.network.specs.Lines.{line_at}
use Rattle.network.specs.Flow.{mark_at, sum_marked, one, leaves, arrives, outs, ins, Balanced}

-- one mark changed
pub sum_marked_set : (f : Line → ℕ → ℕ) (ls : List Line) (ms : List ℕ) (p m : ℕ) → p < length ls → p < length ms →
    sum_marked f ls (set ms p m) + f (line_at ls p) (mark_at ms p) ≡ sum_marked f ls ms + f (line_at ls p) m
sum_marked_set f [] ms p m h g = absurd (omega arith)
sum_marked_set f (l ∷ ls) [] p m h g = absurd (omega arith)
sum_marked_set f (l ∷ ls) (k ∷ ms) zero m h g = omega arith
sum_marked_set f (l ∷ ls) (k ∷ ms) (suc p) m h g = omega (arith, sum_marked_set f ls ms p m (omega arith) (omega arith))

-- a sum of two sums, where it is so at each line
pub sum_marked_plus : (f g h : Line → ℕ → ℕ) (ls : List Line) (ms : List ℕ) →
    ((p : ℕ) → p < length ls → p < length ms → f (line_at ls p) (mark_at ms p) ≡ g (line_at ls p) (mark_at ms p) + h (line_at ls p) (mark_at ms p)) →
    sum_marked f ls ms ≡ sum_marked g ls ms + sum_marked h ls ms
sum_marked_plus f g h [] ms each = refl
sum_marked_plus f g h (l ∷ ls) [] each = refl
sum_marked_plus f g h (l ∷ ls) (m ∷ ms) each =
    omega (arith, each 0 (omega arith) (omega arith), sum_marked_plus f g h ls ms (λ p a b. each (suc p) (omega arith) (omega arith)))

-- a sum that is at most two sums
pub sum_marked_most : (f g h : Line → ℕ → ℕ) (ls : List Line) (ms : List ℕ) →
    ((p : ℕ) → p < length ls → p < length ms → f (line_at ls p) (mark_at ms p) ≤ g (line_at ls p) (mark_at ms p) + h (line_at ls p) (mark_at ms p)) →
    sum_marked f ls ms ≤ sum_marked g ls ms + sum_marked h ls ms
sum_marked_most f g h [] ms each = omega arith
sum_marked_most f g h (l ∷ ls) [] each = omega arith
sum_marked_most f g h (l ∷ ls) (m ∷ ms) each =
    omega (arith, each 0 (omega arith) (omega arith), sum_marked_most f g h ls ms (λ p a b. each (suc p) (omega arith) (omega arith)))

pub sum_marked_zero : (f : Line → ℕ → ℕ) (ls : List Line) (ms : List ℕ) →
    ((p : ℕ) → p < length ls → p < length ms → f (line_at ls p) (mark_at ms p) ≡ 0) → sum_marked f ls ms ≡ 0
sum_marked_zero f [] ms each = refl
sum_marked_zero f (l ∷ ls) [] each = refl
sum_marked_zero f (l ∷ ls) (m ∷ ms) each =
    omega (arith, each 0 (omega arith) (omega arith), sum_marked_zero f ls ms (λ p a b. each (suc p) (omega arith) (omega arith)))

pub sum_marked_le : (f : Line → ℕ → ℕ) (ls : List Line) (ms : List ℕ) → ((l : Line) (m : ℕ) → f l m ≤ 1) → sum_marked f ls ms ≤ length ls
sum_marked_le f [] ms each = omega arith
sum_marked_le f (l ∷ ls) [] each = omega arith
sum_marked_le f (l ∷ ls) (m ∷ ms) each = omega (arith, each l m, sum_marked_le f ls ms each)

-- a sum that does not look at the marks; there may be more marks than lines
pub sum_marked_count : (t : Line → Bool) (ls : List Line) (ms : List ℕ) → length ls ≤ length ms → sum_marked (λ l _. one (t l)) ls ms ≡ count_by t ls
sum_marked_count t [] ms e = refl
sum_marked_count t (l ∷ ls) [] e = absurd (omega arith)
sum_marked_count t (l ∷ ls) (m ∷ ms) e = omega (arith, sum_marked_count t ls ms (omega arith), sum_by-cons (λ x. one (t x)) l ls)

-- .. or fewer
pub sum_marked_count_le : (t : Line → Bool) (ls : List Line) (ms : List ℕ) → sum_marked (λ l _. one (t l)) ls ms ≤ count_by t ls
sum_marked_count_le t [] ms = omega arith
sum_marked_count_le t (l ∷ ls) [] = omega arith
sum_marked_count_le t (l ∷ ls) (m ∷ ms) = omega (arith, sum_marked_count_le t ls ms, sum_by-cons (λ x. one (t x)) l ls)

-- marks past the last line count for nothing
pub sum_marked_front : (f : Line → ℕ → ℕ) (ls : List Line) (ms more : List ℕ) → length ls ≤ length ms → sum_marked f ls (ms ++ more) ≡ sum_marked f ls ms
sum_marked_front f [] ms more e = refl
sum_marked_front f (l ∷ ls) [] more e = absurd (omega arith)
sum_marked_front f (l ∷ ls) (m ∷ ms) more e = ap (λ (x : ℕ). f l m + x) (sum_marked_front f ls ms more (omega arith))

leaves_le : (P : ℕ → Bool) (l : Line) (m : ℕ) → leaves P l m ≤ 1
leaves_le P l m = grind (arith, nat_tests)

arrives_le : (P : ℕ → Bool) (l : Line) (m : ℕ) → arrives P l m ≤ 1
arrives_le P l m = grind (arith, nat_tests)

pub outs_le : (P : ℕ → Bool) (ls : List Line) (ms : List ℕ) → outs P ls ms ≤ length ls
unfolding outs
outs_le P ls ms = sum_marked_le (leaves P) ls ms (leaves_le P)

pub ins_le : (P : ℕ → Bool) (ls : List Line) (ms : List ℕ) → ins P ls ms ≤ length ls
unfolding ins
ins_le P ls ms = sum_marked_le (arrives P) ls ms (arrives_le P)

pub outs_front : (P : ℕ → Bool) (ls : List Line) (ms more : List ℕ) → length ls ≤ length ms → outs P ls (ms ++ more) ≡ outs P ls ms
unfolding outs
outs_front P = sum_marked_front (leaves P)

pub ins_front : (P : ℕ → Bool) (ls : List Line) (ms more : List ℕ) → length ls ≤ length ms → ins P ls (ms ++ more) ≡ ins P ls ms
unfolding ins
ins_front P = sum_marked_front (arrives P)

-- the places of P below n
abbrev pub below : (ℕ → Bool) → ℕ → ℕ → Bool
below P n x = ltb x n && P x

one_step : (P : ℕ → Bool) (n x : ℕ) → one (below P (suc n) x) ≡ one (below P n x) + cond (P n) (one (eqb n x)) 0
one_step P n x = grind (arith, nat_tests)

leaves_step : (P : ℕ → Bool) (n : ℕ) (l : Line) (m : ℕ) → leaves (below P (suc n)) l m ≡ leaves (below P n) l m + cond (P n) (leaves (eqb n) l m) 0
leaves_step P n l m = let f = one_step P n l.first in let s = one_step P n l.second in grind (arith, nat_tests)

arrives_step : (P : ℕ → Bool) (n : ℕ) (l : Line) (m : ℕ) → arrives (below P (suc n)) l m ≡ arrives (below P n) l m + cond (P n) (arrives (eqb n) l m) 0
arrives_step P n l m = let f = one_step P n l.first in let s = one_step P n l.second in grind (arith, nat_tests)

sum_cond : (t : Bool) (f : Line → ℕ → ℕ) (ls : List Line) (ms : List ℕ) → sum_marked (λ l m. cond t (f l m) 0) ls ms ≡ cond t (sum_marked f ls ms) 0
sum_cond true f ls ms = refl
sum_cond false f ls ms = sum_marked_zero (λ l m. 0) ls ms (λ p _ _. refl)

-- one place more
pub outs_step : (P : ℕ → Bool) (n : ℕ) (ls : List Line) (ms : List ℕ) → outs (below P (suc n)) ls ms ≡ outs (below P n) ls ms + cond (P n) (outs (eqb n) ls ms) 0
unfolding outs
outs_step P n ls ms =
    sum_marked_plus (leaves (below P (suc n))) (leaves (below P n)) (λ l m. cond (P n) (leaves (eqb n) l m) 0) ls ms (λ p _ _. leaves_step P n (line_at ls p) (mark_at ms p))
    ∙ ap (λ (x : ℕ). sum_marked (leaves (below P n)) ls ms + x) (sum_cond (P n) (leaves (eqb n)) ls ms)

pub ins_step : (P : ℕ → Bool) (n : ℕ) (ls : List Line) (ms : List ℕ) → ins (below P (suc n)) ls ms ≡ ins (below P n) ls ms + cond (P n) (ins (eqb n) ls ms) 0
unfolding ins
ins_step P n ls ms =
    sum_marked_plus (arrives (below P (suc n))) (arrives (below P n)) (λ l m. cond (P n) (arrives (eqb n) l m) 0) ls ms (λ p _ _. arrives_step P n (line_at ls p) (mark_at ms p))
    ∙ ap (λ (x : ℕ). sum_marked (arrives (below P n)) ls ms + x) (sum_cond (P n) (arrives (eqb n)) ls ms)

pub outs_none : (P : ℕ → Bool) (ls : List Line) (ms : List ℕ) → outs (below P 0) ls ms ≡ 0
unfolding outs
outs_none P ls ms = sum_marked_zero (leaves (below P 0)) ls ms (λ p _ _. grind (arith, nat_tests))

pub ins_none : (P : ℕ → Bool) (ls : List Line) (ms : List ℕ) → ins (below P 0) ls ms ≡ 0
unfolding ins
ins_none P ls ms = sum_marked_zero (arrives (below P 0)) ls ms (λ p _ _. grind (arith, nat_tests))

-- what the places of P below n send out, and what comes to them
pub cut : (P : ℕ → Bool) (ls : List Line) (ms : List ℕ) (a b v n : ℕ) → Balanced ls ms a b v →
    outs (below P n) ls ms + cond (below P n b) v 0 ≡ ins (below P n) ls ms + cond (below P n a) v 0
cut P ls ms a b v zero bal =
    let o = outs_none P ls ms in
    let i = ins_none P ls ms in
    let at_b : cond (below P 0 b) v 0 ≡ 0 = grind (arith, nat_tests) in
    let at_a : cond (below P 0 a) v 0 ≡ 0 = grind (arith, nat_tests) in
    omega arith
cut P ls ms a b v (suc n) bal =
    let o = outs_step P n ls ms in
    let i = ins_step P n ls ms in
    let at_b = cond_step P v n b in
    let at_a = cond_step P v n a in
    let before = cut P ls ms a b v n bal in
    omega (arith, under (P n) (outs (eqb n) ls ms) (cond (eqb n b) v 0) (ins (eqb n) ls ms) (cond (eqb n a) v 0) (bal n))
  where
    cond_step : (P : ℕ → Bool) (v n x : ℕ) → cond (below P (suc n) x) v 0 ≡ cond (below P n x) v 0 + cond (P n) (cond (eqb n x) v 0) 0
    cond_step P v n x = grind (arith, nat_tests)

    under : (t : Bool) (w x y z : ℕ) → w + x ≡ y + z → cond t w 0 + cond t x 0 ≡ cond t y 0 + cond t z 0
    under true w x y z e = e
    under false w x y z e = refl
