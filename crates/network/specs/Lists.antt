-- Words on lists that routes and groups use.
use Rattle.std.specs.Prelude.{ℕ, ◌+◌, Bool, true, false, cond, not, ◌&&◌, ◌||◌, List, [], ◌∷◌, ◌==◌}

-- x stands in the list
unfoldable pub among : List ℕ → ℕ → Bool
among [] x = false
among (y ∷ ys) x = y == x || among ys x

-- nothing stands in the list twice
unfoldable pub distinct : List ℕ → Bool
distinct [] = true
distinct (x ∷ xs) = not (among xs x) && distinct xs

-- how many different numbers stand in the list
unfoldable pub different : List ℕ → ℕ
different [] = 0
different (x ∷ xs) = cond (among xs x) 0 1 + different xs

-- the test holds of every element
unfoldable pub every : {X : Type 0} → (X → Bool) → List X → Bool
every P [] = true
every P (x ∷ xs) = P x && every P xs

-- some number stands in both lists
unfoldable pub meet : List ℕ → List ℕ → Bool
meet [] ys = false
meet (x ∷ xs) ys = among ys x || meet xs ys
