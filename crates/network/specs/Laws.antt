-- What is proved of the words of the network.
use Rattle.std.specs.Prelude.{◌≡◌, ℕ, ◌+◌, ◌^◌, ◌<◌, ◌≤◌, min, true, false, ◌≢◌, ◌↔◌, List, map, length, Some, Option, bit_and, bit_or, nat_lt, slice_index}
use Rattle.network.specs.declared.line.Line.{Line}
use Rattle.network.specs.declared.engine.Flow.{Flow}
use Rattle.network.specs.declared.engine.SiteWork.{SiteWork}
use Rattle.network.specs.Lines.{AllJoin}
use Rattle.network.specs.Sides.{member, differ}
use Rattle.network.specs.Cuts.{crossing, level_of}
use Rattle.network.specs.Lists.{distinct, different, every, meet}
use Rattle.network.specs.Groups.{Group, Share, group_list, group_count}
use Rattle.network.specs.Routes.{route, free_route, FreeRoutes, encoded, decode}
use Rattle.network.specs.Answers.{Task, PartedBy, Answer}

-- no side that holds exactly one of a and b is crossed by fewer free lines than their level
abbrev pub Bounding : Type 0
Bounding = (n : ℕ) (ls : List Line) (a b s : ℕ) → s < 2 ^ n → differ (member s a) (member s b) ≡ true → level_of n ls a b ≤ crossing ls s

-- some side that holds a and not b is crossed by just as many
abbrev pub Attained : Type 0
Attained = (n : ℕ) (ls : List Line) (a b : ℕ) → AllJoin n ls → a < n → b < n → a ≢ b → (s : ℕ) × PartedBy n ls a b (level_of n ls a b) s

abbrev pub Symmetric : Type 0
Symmetric = (n : ℕ) (ls : List Line) (a b : ℕ) → level_of n ls a b ≡ level_of n ls b a

-- the level of a and c is at least the smaller of their levels with b
abbrev pub ByThird : Type 0
ByThird = (n : ℕ) (ls : List Line) (a b c : ℕ) → AllJoin n ls → a < n → b < n → c < n → a ≢ c →
    min (level_of n ls a b) (level_of n ls b c) ≤ level_of n ls a c

-- two sides are crossed by at least as many as their intersection and their union
abbrev pub Submodular : Type 0
Submodular = (ls : List Line) (s t : ℕ) → crossing ls (bit_and s t) + crossing ls (bit_or s t) ≤ crossing ls s + crossing ls t

-- two different places share a group at level k exactly where their level is k or more
abbrev pub Shared : Type 0
Shared = (n : ℕ) (ls : List Line) (k x y : ℕ) → AllJoin n ls → x < n → y < n → x ≢ y → Share n ls k x y ↔ (k ≤ level_of n ls x y)

-- their level is k or more exactly where fewer than k lines, taken away, always leave a route of free lines
abbrev pub Withstood : Type 0
Withstood = (n : ℕ) (ls : List Line) (k x y : ℕ) → AllJoin n ls → x < n → y < n → x ≢ y →
    (k ≤ level_of n ls x y) ↔ ((gone : List ℕ) → length gone < k → (r : List ℕ) × (route ls x y r ≡ true) × (free_route ls r ≡ true) × (meet r gone ≡ false))

-- k separate routes of free lines make a level of k or more
abbrev pub Routed : Type 0
Routed = (n : ℕ) (ls : List Line) (k x y : ℕ) (rs : List (List ℕ)) → AllJoin n ls → x < n → y < n → x ≢ y → FreeRoutes ls x y k rs → k ≤ level_of n ls x y

-- an engine answers a call that it takes with a flow, and the value of it is the level
abbrev pub ValueIsLevel : Type 0
ValueIsLevel = (n : ℕ) (ls : List Line) (a b : ℕ) (ms ms' : List ℕ) (ws ws' : List SiteWork) (r : Option Flow) →
    Answer n ls a b ms ms' ws ws' r → Task n ls a b ms ws → (f : Flow) × (r ≡ Some f) × (f.value ≡ level_of n ls a b)

-- routes are read back as they were written, where no two lines have one number
abbrev pub ReadBack : Type 0
ReadBack = (ls : List Line) (rs : List (List ℕ)) → distinct (map (λ l. l.number) ls) ≡ true →
    every (λ r. every (λ p. nat_lt p (length ls)) r) rs ≡ true → decode ls (encoded ls rs) ≡ rs

-- the place g is the lowest of the group that holds x
abbrev pub LowestOf : ℕ → List Line → ℕ → ℕ → ℕ → Type 0
LowestOf n ls k x g = (s : ℕ) × Group n ls k s × (member s x ≡ true) × (member s g ≡ true) × ((y : ℕ) → y < g → member s y ≡ false)

-- the group list has at each place the lowest place of its group, so two places have one entry where they share a
-- group; and there are as many groups as different entries
pub record Listed (n : ℕ) (ls : List Line) (k : ℕ) : Type 0 where
  pub entries : length (group_list n ls k) ≡ n
  pub lowest_there : (x : ℕ) → x < n → LowestOf n ls k x (slice_index (group_list n ls k) x)
  pub same : (x y : ℕ) → x < n → y < n → (slice_index (group_list n ls k) x ≡ slice_index (group_list n ls k) y) ↔ Share n ls k x y
  pub counted : group_count n ls k ≡ different (group_list n ls k)

abbrev pub GroupsListed : Type 0
GroupsListed = (n : ℕ) (ls : List Line) (k : ℕ) → AllJoin n ls → Listed n ls k
