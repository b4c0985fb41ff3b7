-- Levels and groups from the tree are those of the network.
use Rattle.std.proofs.Common.{◌≡◌, ℕ, zero, suc, ◌+◌, ◌<◌, ◌≤◌, Bool, true, false, cond, ◌||◌, eqb, leb, List, [], ◌∷◌, ◌++◌, map, length, get_or, take, drop, set, None, Some, Option, MatchOption, unwrap_or, sym, refl, ap, ◌∙◌, ap₂, inl, inr, append_assoc, add-one, arith, drop-cons}
use Rattle.std.specs.List.{range_with_len}
use Rattle.std.proofs.lemmas.List.FromFn.{length-map-range_with_len, get_or-map-range_with_len, map-range_with_len_more, fill_by_all}
use Rattle.std.proofs.lemmas.List.{append-nil, drop_all, set_at, take_at}
use Rattle.std.proofs.lemmas.Bool.{cases_eq, cases_lt, eq-eqb, le-leb, or_left, or_right, false≢true}
use Rattle.std.proofs.lemmas.Bool.Decides.{nat_tests}
use Rattle.network.specs.declared.line.Line.{Line}
use Rattle.network.specs.Groups.{lowest_by, tally, near, lowest, group_list, group_count}
use Rattle.network.specs.Lists.{different}
use Rattle.network.proofs.GroupList.{groups_listed}
use Rattle.network.proofs.Lowest.{lowest_holds, lowest_first, lowest_same}
use Rattle.cuttree.specs.declared.tree.Tree.{Tree}
use Rattle.cuttree.proofs.Rooting.{two_from}
use Rattle.cuttree.specs.Trees.{lightest, TreeOf, near_in, lowest_in, is_lowest_in, list_in, count_in, GroupsAre}

-- the first number at which the test holds is the lowest
pub lowest_is : (P : ℕ → Bool) (m i : ℕ) → i < m → P i ≡ true → ((j : ℕ) → j < i → P j ≡ false) → lowest_by P m ≡ i
lowest_is P m i l here before = elim (cases_lt (lowest_by P m) i) [
  | inl h ↦ absurd (false≢true (sym (before (lowest_by P m) h) ∙ lowest_holds P m (omega arith)))
  | inr h ↦ (let g = lowest_first P m i here in omega arith)
]

-- the search below x for a place that is near it, and x where there is none
pub lowest_found : (t : Tree) (k x : ℕ) (r : Option ℕ) → x < t.sites →
    MatchOption r ((y : ℕ) → 0 ≤ y → y < x → lightest t x y < k)
    (λ i. (0 ≤ i) × (i < x) × (k ≤ lightest t x i) × ((y : ℕ) → 0 ≤ y → y < i → lightest t x y < k))
    → (unwrap_or r x ≡ lowest_in t k x) × (unwrap_or r x ≤ x)
lowest_found t k x r l found = elim r as (λ q. MatchOption q ((y : ℕ) → 0 ≤ y → y < x → lightest t x y < k)
    (λ i. (0 ≤ i) × (i < x) × (k ≤ lightest t x i) × ((y : ℕ) → 0 ≤ y → y < i → lightest t x y < k))
    → (unwrap_or q x ≡ lowest_in t k x) × (unwrap_or q x ≤ x)) [
      | None ↦ λ f. (sym (lowest_is (near_in t k x) t.sites x l (or_left _ _ (eq-eqb x x refl)) (λ y ly. far y (omega arith) (f y (omega arith) ly))), omega arith)
      | Some i ↦ λ f. (
        sym (lowest_is (near_in t k x) t.sites i (omega (arith, f.1)) (or_right _ _ (le-leb k (lightest t x i) f.2)) (λ y ly. far y (omega (arith, f.1)) (f.3 y (omega arith) ly))),
        omega (arith, f.1),
      )
    ] found
  where
    far : (y : ℕ) → y < x → lightest t x y < k → near_in t k x y ≡ false
    far y ly h = grind (arith, nat_tests)

-- one more entry of a list that f fills from its start
pub filled_more : (f : ℕ → ℕ) (xs : List ℕ) (i : ℕ) → i < length xs →
    set (map f (range_with_len 0 i) ++ drop i xs) i (f i) ≡ map f (range_with_len 0 (i + 1)) ++ drop (i + 1) xs
filled_more f xs i l =
    ap (λ ys. set (map f (range_with_len 0 i) ++ ys) i (f i)) (drop-cons xs i 0 l)
    ∙ set_at (map f (range_with_len 0 i)) (get_or xs i 0) (drop (suc i) xs) (f i) i (length-map-range_with_len f 0 i)
    ∙ sym (append_assoc (map f (range_with_len 0 i)) (f i ∷ []) (drop (suc i) xs))
    ∙ ap₂ ◌++◌ (sym (map-range_with_len_more f 0 i i (omega arith))) (ap (λ j. drop j xs) (sym (add-one i)))

-- .. and all of them
pub filled_whole : (f : ℕ → ℕ) (xs : List ℕ) (i n : ℕ) → i ≡ n → length xs ≤ i → map f (range_with_len 0 i) ++ drop i xs ≡ map f (range_with_len 0 n)
filled_whole f xs i n e l =
    ap (λ ys. map f (range_with_len 0 i) ++ ys) (drop_all i xs l) ∙ append-nil (map f (range_with_len 0 i)) ∙ ap (λ m. map f (range_with_len 0 m)) e

pub tally_more : (P : ℕ → Bool) (i : ℕ) → tally P (i + 1) ≡ cond (P i) 1 0 + tally P i
unfolding tally
tally_more P i = rw add-one

pub one_at_most : (b : Bool) → cond b 1 0 ≤ 1
one_at_most true = omega arith
one_at_most false = omega arith

pub tally_none : (P : ℕ → Bool) → tally P 0 ≡ 0
unfolding tally
tally_none P = refl

pub tally_same : (P Q : ℕ → Bool) (m : ℕ) → ((i : ℕ) → i < m → P i ≡ Q i) → tally P m ≡ tally Q m
unfolding tally
tally_same P Q zero e = refl
tally_same P Q (suc m) e = ap₂ (λ (b : Bool) (r : ℕ). cond b 1 0 + r) (e m (omega arith)) (tally_same P Q m (λ i l. e i (omega arith)))

module _ (n : ℕ) (ls : List Line) (t : Tree) (k : ℕ) (of : TreeOf n ls t) where
  near_same : (x y : ℕ) → x < n → y < n → near_in t k x y ≡ near n ls k x y
  near_same x y lx ly = elim (cases_eq x y) [
    | inl e ↦ rw (eq-eqb x y e)
    | inr ne ↦ ap (λ (w : ℕ). eqb x y || leb k w) (of.levels x y (two_from n x y lx ly ne))
  ]

  pub lowest_agrees : (x : ℕ) → x < n → lowest_in t k x ≡ lowest n ls k x
  lowest_agrees x lx = ap (lowest_by (near_in t k x)) of.spans ∙ lowest_same (near_in t k x) (near n ls k x) n (λ y ly. near_same x y lx ly)

  pub list_agrees : list_in t k ≡ group_list n ls k
  list_agrees =
      ap (λ m. map (lowest_in t k) (range_with_len 0 m)) of.spans
      ∙ fill_by_all (lowest n ls k) (map (lowest_in t k) (range_with_len 0 n)) n 0 (length-map-range_with_len (lowest_in t k) 0 n)
      (λ x lx. get_or-map-range_with_len (lowest_in t k) 0 n x x 0 lx (omega arith) ∙ lowest_agrees x lx)

  pub count_agrees : count_in t k ≡ group_count n ls k
  count_agrees =
      ap (tally (is_lowest_in t k)) of.spans
      ∙ tally_same (is_lowest_in t k) (λ x. eqb (lowest n ls k x) x) n (λ x lx. ap (λ (g : ℕ). eqb g x) (lowest_agrees x lx))

  pub groups_are : (list list' : List ℕ) (r : ℕ) → list' ≡ list_in t k ++ drop t.sites list → r ≡ count_in t k → GroupsAre n ls k list' r
  groups_are list list' r e counted = record {
    entries = front;
    count = counted ∙ count_agrees;
    borne_out = λ net. counted ∙ count_agrees ∙ (groups_listed n ls k net).counted ∙ ap different (sym front);
  }
    where
      front : take n list' ≡ group_list n ls k
      front = ap (take n) (e ∙ ap (λ xs. xs ++ drop t.sites list) list_agrees) ∙ take_at (group_list n ls k) (drop t.sites list) n (length-map-range_with_len (lowest n ls k) 0 n)
