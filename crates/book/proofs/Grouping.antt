-- What the tree of a book tells of its groups.
use Rattle.std.proofs.Common.{◌≡◌, ℕ, ◌<◌, List, length, get_or, take, drop, Some, sym, refl, ap, ◌∙◌, inl, inr, arith}
use mathlib.Core.List.{is_set}
use mathlib.Core.Logic.{∥∥₁_elim}
use native.Mathlib.Nat.{ℕ_set}
use Rattle.std.proofs.lemmas.List.FromFn.{length-map-range_with_len}
use Rattle.std.proofs.lemmas.List.{drop_at, get_or-take}
use Rattle.std.proofs.lemmas.Bool.{cases_eq}
use Rattle.network.specs.declared.line.Line.{Line}
use Rattle.network.specs.Lines.{AllJoin}
use Rattle.network.specs.Groups.{lowest, tally, group_list, group_count}
use Rattle.network.proofs.GroupList.{entry, lowest_below}
use Rattle.cuttree.specs.declared.tree.Tree.{Tree}
use Rattle.cuttree.specs.Trees.{TreeOf, GroupsTold, GroupsOf, list_in, lowest_in, is_lowest_in}

-- the list begins with the group list and goes on as before
pub record Grouped (n : ℕ) (ls : List Line) (k : ℕ) (list list' : List ℕ) (r : ℕ) : Type 0 where
  pub entries : take n list' ≡ group_list n ls k
  pub count : r ≡ group_count n ls k
  pub rest : drop n list' ≡ drop n list

module _ (n : ℕ) (ls : List Line) (t : Tree) (k : ℕ) (list list' : List ℕ) (r : ℕ)
    (spans : t.sites ≡ n) (tells : 0 < n → ∥ TreeOf n ls t ∥₁)
    (told : GroupsTold t k list list' (Some r)) (network : GroupsOf t k list' (Some r)) where
  size : length (list_in t k) ≡ n
  size = length-map-range_with_len (lowest_in t k) 0 t.sites ∙ spans

  pub grouped : Grouped n ls k list list' r
  unfolding tally
  grouped =
      record {
        entries = elim (cases_eq n 0) [
          | inl e ↦ rw e refl
          | inr ne ↦ ∥∥₁_elim (tells (omega arith)) (is_set ℕ_set _ _) (λ h. (network n ls h).entries)
        ];
        count = elim (cases_eq n 0) [
          | inl e ↦ told.2 ∙ ap (tally (is_lowest_in t k)) (spans ∙ e) ∙ sym (ap (λ (m : ℕ). group_count m ls k) e)
          | inr ne ↦ ∥∥₁_elim (tells (omega arith)) (ℕ_set _ _) (λ h. (network n ls h).count)
        ];
        rest = ap (drop n) told.1 ∙ drop_at (list_in t k) (drop t.sites list) n size ∙ ap (λ (m : ℕ). drop m list) spans;
      }

-- each entry is a place
pub entry_within : (n : ℕ) (ls : List Line) (k : ℕ) (list list' : List ℕ) (r : ℕ) → AllJoin n ls → Grouped n ls k list list' r
    → (i : ℕ) → i < n → get_or list' i 0 < n
entry_within n ls k list list' r join g i l =
    let here : get_or list' i 0 ≡ lowest n ls k i =
    sym (get_or-take n list' i 0 l) ∙ ap (λ (z : List ℕ). get_or z i 0) g.entries ∙ entry n ls k join i l in
    omega (arith, here, lowest_below n ls k join i)
