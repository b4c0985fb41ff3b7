-- Laws of the number of free lines that cross a set of places.
use Rattle.std.proofs.Common.{◌≡◌, ℕ, suc, ◌+◌, ◌<◌, ◌≤◌, Bool, true, false, cond, not, ◌&&◌, ◌||◌, List, [], ◌∷◌, length, sym, refl, ◌∙◌, ap₂, arith}
use Rattle.std.proofs.lemmas.List.Sums.{sum_by-cons, count_by-le-length}
use Rattle.network.specs.declared.line.Line.{Line}
use Rattle.network.specs.Lines.{is_free, Joins, AllJoin}
use Rattle.network.specs.Sides.{differ}
use Rattle.network.specs.Cuts.{crosses, crossing_by}

-- what one line adds
abbrev pub adds : (ℕ → Bool) → Line → ℕ
adds m l = cond (crosses m l) 1 0

pub crossing_nil : (m : ℕ → Bool) → crossing_by m [] ≡ 0
unfolding crossing_by
crossing_nil m = refl

pub crossing_cons : (m : ℕ → Bool) (l : Line) (ls : List Line) → crossing_by m (l ∷ ls) ≡ adds m l + crossing_by m ls
unfolding crossing_by
crossing_cons m l ls = sum_by-cons (adds m) l ls

pub crossing_le_length : (m : ℕ → Bool) (ls : List Line) → crossing_by m ls ≤ length ls
unfolding crossing_by
crossing_le_length m ls = count_by-le-length (crosses m) ls

-- the lines after the first join places too
pub join_rest : (n : ℕ) (l : Line) (ls : List Line) → AllJoin n (l ∷ ls) → AllJoin n ls
join_rest n l ls h p b = h (suc p) (omega arith)

pub join_first : (n : ℕ) (l : Line) (ls : List Line) → AllJoin n (l ∷ ls) → Joins n l
join_first n l ls h = h 0 (omega arith)

-- only the places below n matter
pub crossing_same : (n : ℕ) (m w : ℕ → Bool) (ls : List Line) → AllJoin n ls → ((i : ℕ) → i < n → m i ≡ w i) → crossing_by m ls ≡ crossing_by w ls
crossing_same n m w [] h e = crossing_nil m ∙ sym (crossing_nil w)
crossing_same n m w (l ∷ ls) h e =
    let j = join_first n l ls h in
    crossing_cons m l ls ∙ ap₂ ◌+◌ (let p = e l.first j.0 in let q = e l.second j.1 in rw (p, q)) (crossing_same n m w ls (join_rest n l ls h) e)
    ∙ sym (crossing_cons w l ls)

-- two tests that agree everywhere
pub crossing_like : (m w : ℕ → Bool) (ls : List Line) → ((i : ℕ) → m i ≡ w i) → crossing_by m ls ≡ crossing_by w ls
crossing_like m w [] e = crossing_nil m ∙ sym (crossing_nil w)
crossing_like m w (l ∷ ls) e =
    crossing_cons m l ls ∙ ap₂ ◌+◌ (let p = e l.first in let q = e l.second in rw (p, q)) (crossing_like m w ls e) ∙ sym (crossing_cons w l ls)

-- the complement is crossed by the same lines
differ_not : (x y : Bool) → differ (not x) (not y) ≡ differ x y
differ_not true true = refl
differ_not true false = refl
differ_not false true = refl
differ_not false false = refl

pub crossing_not : (m : ℕ → Bool) (ls : List Line) → crossing_by (λ i. not (m i)) ls ≡ crossing_by m ls
crossing_not m [] = crossing_nil (λ i. not (m i)) ∙ sym (crossing_nil m)
crossing_not m (l ∷ ls) =
    crossing_cons (λ i. not (m i)) l ls ∙ ap₂ ◌+◌ (rw differ_not) (crossing_not m ls) ∙ sym (crossing_cons m l ls)

-- one line crosses the meet and the join of two sets no more often than the two sets
both_add : (f a b c d : Bool) → cond (f && differ (a && c) (b && d)) 1 0 + cond (f && differ (a || c) (b || d)) 1 0 ≤ cond (f && differ a b) 1 0 + cond (f && differ c d) 1 0
both_add false a b c d = omega arith
both_add true true true true true = omega arith
both_add true true true true false = omega arith
both_add true true true false true = omega arith
both_add true true true false false = omega arith
both_add true true false true true = omega arith
both_add true true false true false = omega arith
both_add true true false false true = omega arith
both_add true true false false false = omega arith
both_add true false true true true = omega arith
both_add true false true true false = omega arith
both_add true false true false true = omega arith
both_add true false true false false = omega arith
both_add true false false true true = omega arith
both_add true false false true false = omega arith
both_add true false false false true = omega arith
both_add true false false false false = omega arith

abbrev pub both : (ℕ → Bool) → (ℕ → Bool) → ℕ → Bool
both m w i = m i && w i

abbrev pub either : (ℕ → Bool) → (ℕ → Bool) → ℕ → Bool
either m w i = m i || w i

pub submodular : (m w : ℕ → Bool) (ls : List Line) → crossing_by (both m w) ls + crossing_by (either m w) ls ≤ crossing_by m ls + crossing_by w ls
submodular m w [] = omega (arith, crossing_nil (both m w), crossing_nil (either m w))
submodular m w (l ∷ ls) =
    omega (
      arith,
      crossing_cons (both m w) l ls,
      crossing_cons (either m w) l ls,
      crossing_cons m l ls,
      crossing_cons w l ls,
      both_add (is_free l.state) (m l.first) (m l.second) (w l.first) (w l.second),
      submodular m w ls,
    )
