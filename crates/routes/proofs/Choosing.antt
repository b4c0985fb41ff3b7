-- From a copy of the marks back to the marks, and from the routes to the answer.
use Rattle.std.proofs.Common.{◌≡◌, ℕ, ◌<◌, ◌≤◌, true, not, eqb, List, ◌++◌, length, take, drop, Some, None, Option, sym, ap, ◌∙◌, subst, inl, inr, arith, MatchOption}
use Rattle.std.proofs.lemmas.Bool.{cases_lt, cases_Bool, both_ways}
use Rattle.std.proofs.lemmas.List.{length-take, length-drop, take-append-drop, get_or-take, get_or_past}
use Rattle.network.specs.declared.line.Line.{Line}
use Rattle.network.specs.declared.pair.Pair.{Pair}
use Rattle.network.specs.Routes.{free_at}
use Rattle.network.specs.Flow.{mark_at, outs, ins, Balanced, AllMarked}
use Rattle.network.proofs.Sums.{outs_front, ins_front}
use Rattle.routes.specs.declared.marking.Marking.{Marking}
use Rattle.routes.specs.Taking.{carrying, listed, Chosen, TakenBy}
use Rattle.routes.specs.Shapes.{PairOf, Ready}
use Rattle.routes.specs.Walks.{picked, Supplies}
use Rattle.routes.specs.Draws.{Drawn}
use Rattle.routes.proofs.Balances.{of_pair, ready_fit}
use Rattle.routes.proofs.Drawing.{all_weaker, picked_was}

-- the marks of the lines are as good as all marks
module _ (ls : List Line) (ms : List ℕ) (room : length ls ≤ length ms) where
  long : length ls ≤ length (take (length ls) ms)
  long = simp length-take (omega (arith, room))

  front_balanced : (a b v : ℕ) → Balanced ls ms a b v → Balanced ls (take (length ls) ms) a b v
  front_balanced a b v h p =
      let whole = take-append-drop (length ls) ms in
      let o : outs (eqb p) ls ms ≡ outs (eqb p) ls (take (length ls) ms) = ap (outs (eqb p) ls) (sym whole) ∙ outs_front (eqb p) ls (take (length ls) ms) (drop (length ls) ms) long in
      let i : ins (eqb p) ls ms ≡ ins (eqb p) ls (take (length ls) ms) = ap (ins (eqb p) ls) (sym whole) ∙ ins_front (eqb p) ls (take (length ls) ms) (drop (length ls) ms) long in
      omega (arith, h p)

  -- a line that carries under them is one of the table's
  front_inside : (p : ℕ) → carrying (take (length ls) ms) p ≡ true → p < length ls
  front_inside p h =
      elim (cases_lt p (length ls)) [
        | inl l ↦ l
        | inr l ↦ absurd (both_ways (carrying (take (length ls) ms) p) (ap (λ x. not (eqb x 0)) (get_or_past (take (length ls) ms) p 0 (simp length-take (omega arith)))) h)
      ]

  front_carrying : (p : ℕ) → carrying (take (length ls) ms) p ≡ true → carrying ms p ≡ true
  front_carrying p h = sym (ap (λ x. not (eqb x 0)) (get_or-take (length ls) ms p 0 (front_inside p h))) ∙ h

  front_free : AllMarked ls ms → (p : ℕ) → carrying (take (length ls) ms) p ≡ true → free_at ls p ≡ true
  front_free marked p h =
      elim (cases_Bool (free_at ls p)) [
        | inl f ↦ f
        | inr n ↦ (let zero_mark : mark_at ms p ≡ 0 = (marked p (omega (arith, front_inside p h))).1 n in
            absurd (both_ways (carrying ms p) (ap (λ x. not (eqb x 0)) zero_mark) (front_carrying p h)))
      ]

-- .. what they supply, and what is drawn from them
module _ (q : Pair) (ms : List ℕ) (v k : ℕ) (ready : Ready q ms v k) where
  pub front_supplies : Supplies q (take (length q.net.lines.now) ms) k
  front_supplies =
      record {
        room = simp length-take (omega (arith, ready.marks_room));
        most = v;
        enough = ready.enough;
        balanced = front_balanced q.net.lines.now ms ready.marks_room q.a q.b v ready.carried.balanced;
      }

  pub drawn_chosen : (front ms' : List ℕ) (rs : List (List ℕ)) (store : List ℕ) (top : ℕ) → front ≡ take (length q.net.lines.now) ms
      → Drawn q front ms' k rs store top → Chosen q.net.lines.now ms q.a q.b k rs
  drawn_chosen front ms' rs store top is h =
      let ls = q.net.lines.now in
      let was = λ (p : ℕ) (e : picked front ms' p ≡ true). subst (λ xs. carrying xs p ≡ true) is (picked_was front ms' p e) in
      record {
        free_routes = record {
          separates = record { many = h.many; routes = h.routes; apart = h.apart };
          all_free = all_weaker (picked front ms') (free_at ls) rs (λ p e. front_free ls ms ready.marks_room ready.carried.marked p (was p e)) h.out;
        };
        carry = all_weaker (picked front ms') (carrying ms) rs (λ p e. front_carrying ls ms ready.marks_room p (was p e)) h.out;
        short = omega (arith, h.fewer, ap length h.stands, length-drop top store);
      }

-- what is written, or not
pub taken : (m : Marking) (q : Pair) (k : ℕ) (rs : List (List ℕ)) (xs xs' numbers : List ℕ) (r : Option ℕ)
    → PairOf m q → Ready q m.marks.now m.value k → Chosen q.net.lines.now m.marks.now q.a q.b k rs → numbers ≡ listed rs
    → MatchOption r ((length xs < length numbers) × (xs' ≡ xs)) (λ w. (w ≡ length numbers) × (xs' ≡ numbers ++ drop w xs))
    → TakenBy m k xs xs' r
taken m q k rs xs xs' numbers r of ready chosen e h = told r h
  where
    here : Chosen m.lines.now m.marks.now m.a m.b k rs
    here = of_pair m q of (λ _ ls a b. Chosen ls m.marks.now a b k rs) chosen

    told : (r : Option ℕ) → MatchOption r ((length xs < length numbers) × (xs' ≡ xs)) (λ w. (w ≡ length numbers) × (xs' ≡ numbers ++ drop w xs))
        → TakenBy m k xs xs' r
    told (Some w) h = (ready_fit m q of k ready, (rs, here, h.0 ∙ ap length e, h.1 ∙ ap (λ ys. ys ++ drop w xs) e))
    told None h = (h.1, λ _. (rs, here, omega (arith, h.0, ap length e)))
