-- Groups: the places near a place make its group, and two places share one where they are near.
use Rattle.std.proofs.Common.{◌≡◌, ℕ, ◌^◌, ◌<◌, ◌≤◌, true, List, sym, refl, ◌∙◌, subst, inl, inr}
use Rattle.std.proofs.lemmas.Bool.{cases_eq, cases_lt, eqb-true, eq-eqb, leb-true, le-leb, or_cases, or_left, or_right, false≢true}
use Rattle.network.specs.declared.line.Line.{Line}
use Rattle.network.specs.Lines.{AllJoin}
use Rattle.network.specs.Sides.{member}
use Rattle.network.specs.Cuts.{level_of}
use Rattle.network.specs.Groups.{Group, Share, near}
use Rattle.network.specs.Laws.{Shared}
use Rattle.network.proofs.Members.{side_of, side_of_below, member_side_of, member_past}
use Rattle.network.proofs.Levels.{count_of, tied_from_level, level_from_tied}
use Rattle.network.proofs.Ties.{Tied, tied_self, tied_sym, tied_trans}

pub below_member : (n g x : ℕ) → g < 2 ^ n → member g x ≡ true → x < n
below_member n g x h p = elim (cases_lt x n) [ inl l ↦ l | inr l ↦ absurd (false≢true (sym (member_past g n x h l) ∙ p)) ]

pub near_self : (n : ℕ) (ls : List Line) (k x : ℕ) → near n ls k x x ≡ true
near_self n ls k x = or_left _ _ (eq-eqb x x refl)

pub near_level : (n : ℕ) (ls : List Line) (k x y : ℕ) → k ≤ level_of n ls x y → near n ls k x y ≡ true
near_level n ls k x y h = or_right _ _ (le-leb k (level_of n ls x y) h)

pub tied_from_near : (n : ℕ) (ls : List Line) (k x y : ℕ) → AllJoin n ls → x < n → y < n → near n ls k x y ≡ true → Tied (count_of ls) k x y
tied_from_near n ls k x y net lx ly h =
    elim (or_cases _ _ h) [
      | inl e ↦ subst (λ z. Tied (count_of ls) k x z) (eqb-true x y e) (tied_self (count_of ls) k x)
      | inr e ↦ tied_from_level n ls k x y net lx ly (leb-true k (level_of n ls x y) e)
    ]

pub near_from_tied : (n : ℕ) (ls : List Line) (k x y : ℕ) → x < n → y < n → Tied (count_of ls) k x y → near n ls k x y ≡ true
near_from_tied n ls k x y lx ly h =
    elim (cases_eq x y) [
      | inl e ↦ or_left _ _ (eq-eqb x y e)
      | inr ne ↦ near_level n ls k x y (level_from_tied n ls k x y lx ly ne h)
    ]

module _ (n : ℕ) (ls : List Line) (k x : ℕ) (net : AllJoin n ls) (lx : x < n) where
  -- the places near x
  pub group_of : ℕ
  group_of = side_of n (near n ls k x)

  pub group_tied : (z : ℕ) → member group_of z ≡ true → (z < n) × Tied (count_of ls) k x z
  unfolding group_of
  group_tied z h =
      let lz = below_member n group_of z (side_of_below n (near n ls k x)) h in
      (lz, tied_from_near n ls k x z net lx lz (sym (member_side_of n (near n ls k x) z lz) ∙ h))

  pub member_group : (z : ℕ) → z < n → member group_of z ≡ near n ls k x z
  unfolding group_of
  member_group z lz = member_side_of n (near n ls k x) z lz

  pub group_around : Group n ls k group_of
  unfolding group_of
  group_around = record {
    below = side_of_below n (near n ls k x);
    together = λ y z p q ne. (let hy = group_tied y p in let hz = group_tied z q in
        level_from_tied n ls k y z hy.0 hz.0 ne (tied_trans (count_of ls) k y x z (tied_sym (count_of ls) k x y hy.1) hz.1));
    largest = λ h hb c inside w p. (let lw = below_member n h w hb p in
        member_group w lw ∙ elim (cases_eq x w) [
          | inl e ↦ or_left _ _ (eq-eqb x w e)
          | inr ne ↦ near_level n ls k x w (c x w (inside x (member_group x lx ∙ near_self n ls k x)) p ne)
        ]);
  }

  pub shares : (y : ℕ) → y < n → near n ls k x y ≡ true → Share n ls k x y
  shares y ly h = (group_of, group_around, member_group x lx ∙ near_self n ls k x, member_group y ly ∙ h)

-- two places that share a group are near
pub near_shared : (n : ℕ) (ls : List Line) (k x y : ℕ) → Share n ls k x y → near n ls k x y ≡ true
near_shared n ls k x y s =
    elim (cases_eq x y) [
      | inl e ↦ or_left _ _ (eq-eqb x y e)
      | inr ne ↦ near_level n ls k x y (s.1.together x y s.2 s.3 ne)
    ]

pub shared : Shared
shared n ls k x y net lx ly ne =
    (λ (s : Share n ls k x y). s.1.together x y s.2 s.3 ne, λ h. shares n ls k x net lx y ly (near_level n ls k x y h))
