-- The group list: each entry is the lowest place of a group, equal where two places share one.
use Rattle.std.proofs.Common.{◌≡◌, ℕ, ◌<◌, ◌≤◌, Bool, true, false, List, get_or, sym, refl, ap, ◌∙◌, arith}
use Rattle.std.proofs.lemmas.List.FromFn.{length-map-range_with_len, get_or-map-range_with_len}
use Rattle.network.specs.declared.line.Line.{Line}
use Rattle.network.specs.Lines.{AllJoin}
use Rattle.network.specs.Groups.{near, lowest, group_list}
use Rattle.network.specs.Laws.{LowestOf, Listed, GroupsListed}
use Rattle.network.proofs.Levels.{count_of}
use Rattle.network.proofs.Ties.{tied_sym, tied_trans}
use Rattle.network.proofs.Lowest.{lowest_holds, lowest_none, lowest_first, lowest_same}
use Rattle.network.proofs.Entries.{tally_different}
use Rattle.network.proofs.Groups.{near_self, tied_from_near, near_from_tied, group_of, member_group, group_around, shares, near_shared}

both_or_neither : (x y : Bool) → (x ≡ true → y ≡ true) → (y ≡ true → x ≡ true) → x ≡ y
both_or_neither true y f g = sym (f refl)
both_or_neither false true f g = g refl
both_or_neither false false f g = refl

module _ (n : ℕ) (ls : List Line) (k : ℕ) (net : AllJoin n ls) where
  near_sym : (x y : ℕ) → x < n → y < n → near n ls k x y ≡ true → near n ls k y x ≡ true
  near_sym x y lx ly h = near_from_tied n ls k y x ly lx (tied_sym (count_of ls) k x y (tied_from_near n ls k x y net lx ly h))

  near_trans : (x y z : ℕ) → x < n → y < n → z < n → near n ls k x y ≡ true → near n ls k y z ≡ true → near n ls k x z ≡ true
  near_trans x y z lx ly lz h g =
      near_from_tied n ls k x z lx lz (tied_trans (count_of ls) k x y z (tied_from_near n ls k x y net lx ly h) (tied_from_near n ls k y z net ly lz g))

  pub lowest_below : (x : ℕ) → lowest n ls k x ≤ x
  lowest_below x = lowest_first (near n ls k x) n x (near_self n ls k x)

  pub near_lowest : (x : ℕ) → x < n → near n ls k x (lowest n ls k x) ≡ true
  near_lowest x lx = lowest_holds (near n ls k x) n (omega (arith, lowest_below x))

  -- places that are near have one lowest place
  pub lowest_near : (x y : ℕ) → x < n → y < n → near n ls k x y ≡ true → lowest n ls k x ≡ lowest n ls k y
  lowest_near x y lx ly h =
      lowest_same (near n ls k x) (near n ls k y) n
      (λ z lz. both_or_neither _ _ (near_trans y x z ly lx lz (near_sym x y lx ly h)) (near_trans x y z lx ly lz h))

  pub lowest_stays : (x : ℕ) → x < n → lowest n ls k (lowest n ls k x) ≡ lowest n ls k x
  lowest_stays x lx =
      let lg : lowest n ls k x < n = omega (arith, lowest_below x) in
      sym (lowest_near x (lowest n ls k x) lx lg (near_lowest x lx))

  pub near_same : (x y : ℕ) → x < n → y < n → lowest n ls k x ≡ lowest n ls k y → near n ls k x y ≡ true
  near_same x y lx ly e =
      let lg : lowest n ls k y < n = omega (arith, lowest_below y) in
      near_trans x (lowest n ls k y) y lx lg ly (ap (near n ls k x) (sym e) ∙ near_lowest x lx) (near_sym y (lowest n ls k y) ly lg (near_lowest y ly))

  pub lowest_of : (x : ℕ) → x < n → LowestOf n ls k x (lowest n ls k x)
  lowest_of x lx =
      let lg : lowest n ls k x < n = omega (arith, lowest_below x) in (
        group_of n ls k x net lx,
        group_around n ls k x net lx,
        member_group n ls k x net lx x lx ∙ near_self n ls k x,
        member_group n ls k x net lx (lowest n ls k x) lg ∙ near_lowest x lx,
        λ y h. member_group n ls k x net lx y (omega arith) ∙ lowest_none (near n ls k x) n y h,
      )

  pub entry : (x : ℕ) → x < n → get_or (group_list n ls k) x 0 ≡ lowest n ls k x
  entry x lx = get_or-map-range_with_len (lowest n ls k) 0 n x x 0 lx (omega arith)

  pub listed : Listed n ls k
  listed = record {
    entries = length-map-range_with_len (lowest n ls k) 0 n;
    lowest_there = λ x lx. rw (entry x lx) (lowest_of x lx);
    same = λ x y lx ly. (
      λ e. shares n ls k x net lx y ly (near_same x y lx ly (sym (entry x lx) ∙ e ∙ entry y ly)),
      λ s. entry x lx ∙ lowest_near x y lx ly (near_shared n ls k x y s) ∙ sym (entry y ly),
    );
    counted = tally_different (lowest n ls k) n (λ x _. lowest_below x) lowest_stays n (omega arith);
  }

pub groups_listed : GroupsListed
groups_listed n ls k net = listed n ls k net
