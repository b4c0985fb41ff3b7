-- Groups: the largest sets of places that hang together at a level.
use Rattle.std.specs.Prelude.{◌≡◌, ℕ, zero, suc, ◌+◌, ◌^◌, ◌<◌, ◌≤◌, Bool, true, cond, ◌||◌, ◌≢◌, List, map, ◌==◌, nat_eq, nat_le, nat_lt}
use Rattle.std.specs.List.{range_with_len}
use Rattle.network.specs.declared.line.Line.{Line}
use Rattle.network.specs.Sides.{member}
use Rattle.network.specs.Cuts.{level_of}

-- every two different places of the side g have level k or more
abbrev pub Together : ℕ → List Line → ℕ → ℕ → Type 0
Together n ls k g = (x y : ℕ) → member g x ≡ true → member g y ≡ true → x ≢ y → k ≤ level_of n ls x y

-- each place of g is one of h
abbrev pub Inside : ℕ → ℕ → Type 0
Inside g h = (x : ℕ) → member g x ≡ true → member h x ≡ true

-- such a side of the network, contained in no larger one
pub record Group (n : ℕ) (ls : List Line) (k g : ℕ) : Type 0 where
  pub below : g < 2 ^ n
  pub together : Together n ls k g
  pub largest : (h : ℕ) → h < 2 ^ n → Together n ls k h → Inside g h → Inside h g

-- some group at level k holds both places
abbrev pub Share : ℕ → List Line → ℕ → ℕ → ℕ → Type 0
Share n ls k x y = (g : ℕ) × Group n ls k g × (member g x ≡ true) × (member g y ≡ true)

-- one place, or two of level k or more
abbrev pub near : ℕ → List Line → ℕ → ℕ → ℕ → Bool
near n ls k x y = x == y || nat_le k (level_of n ls x y)

-- r where it is below m, else m where the test holds, else one past m
abbrev pub settled : ℕ → ℕ → Bool → ℕ
settled m r t = cond (nat_lt r m) r (cond t m (suc m))

-- the lowest number below m at which the test holds, or m
unfoldable pub lowest_by : (ℕ → Bool) → ℕ → ℕ
lowest_by P zero = 0
lowest_by P (suc m) = settled m (lowest_by P m) (P m)

-- the lowest place in the group of the place x
abbrev pub lowest : ℕ → List Line → ℕ → ℕ → ℕ
lowest n ls k x = lowest_by (near n ls k x) n

-- for each place in order the lowest place in its group
abbrev pub group_list : ℕ → List Line → ℕ → List ℕ
group_list n ls k = map (lowest n ls k) (range_with_len 0 n)

-- how many numbers below m pass the test
unfoldable pub tally : (ℕ → Bool) → ℕ → ℕ
tally P zero = 0
tally P (suc m) = cond (P m) 1 0 + tally P m

-- how many groups there are: as many as there are places that are the lowest in their group
abbrev pub group_count : ℕ → List Line → ℕ → ℕ
group_count n ls k = tally (λ x. nat_eq (lowest n ls k x) x) n
