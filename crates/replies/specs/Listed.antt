-- How a booking's routes are listed.
use Rattle.std.specs.Prelude.{◌≡◌, ℕ, ◌<◌, List, [], ◌∷◌, ◌++◌, length, Option, Some, None}

-- no whole route is first in the list: it is empty, or counts more lines than numbers follow
abbrev pub NoRoute : List ℕ → Type 0
NoRoute list = (count : ℕ) (after : List ℕ) → list ≡ count ∷ after → length after < count

-- a list gives up its first route, the count of its lines and then their numbers, and the rest stays; none where it holds
-- no whole route
abbrev pub GivesRoute : List ℕ → Option (List ℕ) → List ℕ → Type 0
GivesRoute list (Some route) rest = list ≡ length route ∷ route ++ rest
GivesRoute list None rest = (rest ≡ list) × NoRoute list

-- the list holds these routes, one after the other, and then no further whole one
abbrev pub HoldsRoutes : List ℕ → List (List ℕ) → Type 0
HoldsRoutes list [] = NoRoute list
HoldsRoutes list (route ∷ others) = (rest : List ℕ) × GivesRoute list (Some route) rest × HoldsRoutes rest others
