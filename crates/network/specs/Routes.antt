-- Routes: chains of lines, by their positions in the table.
use Rattle.std.specs.Prelude.{◌≡◌, ℕ, zero, suc, Bool, true, false, cond, not, ◌&&◌, ◌||◌, List, [], ◌∷◌, ◌++◌, map, length, take, drop, ◌==◌, nat_lt}
use Rattle.network.specs.declared.line.Line.{Line}
use Rattle.network.specs.Lines.{is_free, line_at}
use Rattle.network.specs.Lists.{among, distinct, every, meet}

-- the line has an end at the place x
abbrev pub touches : Line → ℕ → Bool
touches l x = l.first == x || l.second == x

-- where the line leads from the place x
abbrev pub other_end : Line → ℕ → ℕ
other_end l x = cond (l.first == x) l.second l.first

-- each line of the chain is in the table and begins where the one before it ended, the first one at x
unfoldable pub chained : List Line → ℕ → List ℕ → Bool
chained ls x [] = true
chained ls x (p ∷ r) = nat_lt p (length ls) && (touches (line_at ls p) x && chained ls (other_end (line_at ls p) x) r)

-- the places that the chain passes after x
unfoldable pub stops : List Line → ℕ → List ℕ → List ℕ
stops ls x [] = []
stops ls x (p ∷ r) = other_end (line_at ls p) x ∷ stops ls (other_end (line_at ls p) x) r

-- where the chain ends
unfoldable pub end_of : List Line → ℕ → List ℕ → ℕ
end_of ls x [] = x
end_of ls x (p ∷ r) = end_of ls (other_end (line_at ls p) x) r

-- a chain of lines that starts at a, ends at b and passes no place twice
abbrev pub route : List Line → ℕ → ℕ → List ℕ → Bool
route ls a b r = chained ls a r && (end_of ls a r == b && distinct (a ∷ stops ls a r))

-- each line of the route is free
abbrev pub free_at : List Line → ℕ → Bool
free_at ls p = is_free (line_at ls p).state

abbrev pub free_route : List Line → List ℕ → Bool
free_route ls r = every (free_at ls) r

-- some line of r is in one of the routes
unfoldable pub meets_any : List ℕ → List (List ℕ) → Bool
meets_any r [] = false
meets_any r (s ∷ rs) = meet r s || meets_any r rs

-- no line is in two of the routes
unfoldable pub separate : List (List ℕ) → Bool
separate [] = true
separate (r ∷ rs) = not (meets_any r rs) && separate rs

-- the line is on one of the routes
unfoldable pub on_any : List (List ℕ) → ℕ → Bool
on_any [] p = false
on_any (r ∷ rs) p = among r p || on_any rs p

-- k routes from a to b of which no two have a line in common
pub record SeparateRoutes (ls : List Line) (a b k : ℕ) (rs : List (List ℕ)) : Type 0 where
  pub many : length rs ≡ k
  pub routes : every (route ls a b) rs ≡ true
  pub apart : separate rs ≡ true

-- .. all of whose lines are free
pub record FreeRoutes (ls : List Line) (a b k : ℕ) (rs : List (List ℕ)) : Type 0 where
  pub separates : SeparateRoutes ls a b k rs
  pub all_free : every (free_route ls) rs ≡ true

-- each route as its count of lines, and then its lines, each as f tells it
unfoldable pub written : (ℕ → ℕ) → List (List ℕ) → List ℕ
written f [] = []
written f (r ∷ rs) = length r ∷ (map f r ++ written f rs)

-- .. by the numbers that the file gives them
abbrev pub number_at : List Line → ℕ → ℕ
number_at ls p = (line_at ls p).number

abbrev pub encoded : List Line → List (List ℕ) → List ℕ
encoded ls rs = written (number_at ls) rs

-- the position of the first line of a number, or the length of the table
unfoldable pub position_of : List Line → ℕ → ℕ
position_of [] j = 0
position_of (l ∷ ls) j = cond (l.number == j) 0 (suc (position_of ls j))

-- the routes that a list of at most `size` counts and numbers tells
unfoldable pub decode_by : List Line → ℕ → List ℕ → List (List ℕ)
decode_by ls zero xs = []
decode_by ls (suc size) [] = []
decode_by ls (suc size) (count ∷ xs) = map (position_of ls) (take count xs) ∷ decode_by ls size (drop count xs)

abbrev pub decode : List Line → List ℕ → List (List ℕ)
decode ls xs = decode_by ls (length xs) xs
