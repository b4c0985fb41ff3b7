-- What a tree tells, and of which network it is the tree.
use Rattle.std.specs.Prelude.{◌≡◌, ℕ, ◌<◌, ◌≤◌, Bool, true, cond, not, ◌&&◌, ◌||◌, List, ◌++◌, map, length, take, drop, Some, None, Option, ◌==◌, nat_le, nat_lt}
use Rattle.std.specs.List.{range_with_len}
use Rattle.network.specs.declared.line.Line.{Line}
use Rattle.network.specs.Lines.{AllJoin, Fits}
use Rattle.network.specs.Cuts.{level_of}
use Rattle.network.specs.Lists.{different}
use Rattle.network.specs.Groups.{lowest_by, tally, group_list, group_count}
use Rattle.cuttree.specs.declared.tree.Tree.{Tree}
use Rattle.cuttree.specs.Nodes.{lightest_of}
use Rattle.cuttree.specs.Splits.{BySplits}

-- the lightest edge on the way between two different places
abbrev pub lightest : Tree → ℕ → ℕ → ℕ
lightest t x y = lightest_of t.nodes x y

-- x and y are two different places below n
abbrev pub two_places : ℕ → ℕ → ℕ → Bool
two_places n x y = nat_lt x n && (nat_lt y n && not (x == y))

-- the lightest edges are the levels
abbrev pub TellsLevels : ℕ → List Line → Tree → Type 0
TellsLevels n ls t = (x y : ℕ) → two_places n x y ≡ true → lightest t x y ≡ level_of n ls x y

-- the tree came by splits
abbrev pub CameBySplits : ℕ → List Line → Tree → Type 0
CameBySplits n ls t = ∥ BySplits n ls t.nodes ∥₁

-- the tree of a network of n sites: it has these sites, tells their levels, and came by splits
pub record TreeOf (n : ℕ) (ls : List Line) (t : Tree) : Type 0 where
  pub spans : t.sites ≡ n
  pub levels : TellsLevels n ls t
  pub splits : CameBySplits n ls t

-- the line tables of which there is a tree
pub record Lawful (n : ℕ) (ls : List Line) : Type 0 where
  pub some_site : 0 < n
  pub fits : Fits n ls

-- what the builder answers: none where the line table is not lawful, else the tree of it
abbrev pub Built : ℕ → List Line → Option Tree → Type 0
Built n ls None = Lawful n ls → ⊥
Built n ls (Some t) = Lawful n ls × TreeOf n ls t

-- what a tree answers when it is asked for a level: an edge's weight
abbrev pub level_told : Tree → ℕ → ℕ → Option ℕ
level_told t x y = cond (two_places t.sites x y) (Some (lightest t x y)) None

-- .. and that is the level in every network of which it is the tree
abbrev pub LevelIs : Tree → ℕ → ℕ → Option ℕ → Type 0
LevelIs t x y r = (n : ℕ) (ls : List Line) → TreeOf n ls t → r ≡ cond (two_places n x y) (Some (level_of n ls x y)) None

-- one place, or two with no edge below k between them
abbrev pub near_in : Tree → ℕ → ℕ → ℕ → Bool
near_in t k x y = x == y || nat_le k (lightest t x y)

-- the lowest place that is near x
abbrev pub lowest_in : Tree → ℕ → ℕ → ℕ
lowest_in t k x = lowest_by (near_in t k x) t.sites

abbrev pub list_in : Tree → ℕ → List ℕ
list_in t k = map (lowest_in t k) (range_with_len 0 t.sites)

-- x is itself the lowest, and how many places are
abbrev pub is_lowest_in : Tree → ℕ → ℕ → Bool
is_lowest_in t k x = lowest_in t k x == x

abbrev pub count_in : Tree → ℕ → ℕ
count_in t k = tally (is_lowest_in t k) t.sites

-- what a tree answers when it is asked for the groups at k: none where the list is too short, which is then as it was;
-- else how many there are, and the list begins with the lowest place near each and goes on as before
abbrev pub GroupsTold : Tree → ℕ → List ℕ → List ℕ → Option ℕ → Type 0
GroupsTold t k list list' None = (length list < t.sites) × (list' ≡ list)
GroupsTold t k list list' (Some r) = (t.sites ≤ length list) × (list' ≡ list_in t k ++ drop t.sites list) × (r ≡ count_in t k)

-- the list begins with the group list of the network, and r is how many groups there are, and so many different entries
pub record GroupsAre (n : ℕ) (ls : List Line) (k : ℕ) (list : List ℕ) (r : ℕ) : Type 0 where
  pub entries : take n list ≡ group_list n ls k
  pub count : r ≡ group_count n ls k
  pub borne_out : AllJoin n ls → r ≡ different (take n list)

-- .. in every network of which it is the tree
abbrev pub GroupsOf : Tree → ℕ → List ℕ → Option ℕ → Type 0
GroupsOf t k list None = Unit {0}
GroupsOf t k list (Some r) = (n : ℕ) (ls : List Line) → TreeOf n ls t → GroupsAre n ls k list r
