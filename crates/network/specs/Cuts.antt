-- Lines that cross a side, and the level of two places.
use Rattle.std.specs.Prelude.{ℕ, zero, suc, ◌^◌, min, Bool, true, false, ◌&&◌, List, length, count_by}
use Rattle.network.specs.declared.line.Line.{Line}
use Rattle.network.specs.Lines.{is_free}
use Rattle.network.specs.Sides.{member, differ}

-- a free line with exactly one of its two places in the set m
abbrev pub crosses : (ℕ → Bool) → Line → Bool
crosses m l = is_free l.state && differ (m l.first) (m l.second)

-- how many free lines cross the set m
unfoldable pub crossing_by : (ℕ → Bool) → List Line → ℕ
crossing_by m ls = count_by (crosses m) ls

-- how many free lines cross the side s
abbrev pub crossing : List Line → ℕ → ℕ
crossing ls s = crossing_by (member s) ls

-- the smaller of the two where the test holds, else the second
abbrev pub lesser : Bool → ℕ → ℕ → ℕ
lesser true c r = min c r
lesser false c r = r

-- the fewest free lines that cross a side below the bound which holds exactly one of a and b
unfoldable pub least : List Line → ℕ → ℕ → ℕ → ℕ
least ls a b zero = length ls
least ls a b (suc s) = lesser (differ (member s a) (member s b)) (crossing ls s) (least ls a b s)

-- the level of two different places of a network of n sites: the fewest free lines that cross any side which holds
-- one of them and not the other
unfoldable pub level_of : ℕ → List Line → ℕ → ℕ → ℕ
level_of n ls a b = least ls a b (2 ^ n)
