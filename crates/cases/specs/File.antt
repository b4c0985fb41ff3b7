-- The worked network as the bytes of a network file.
use Rattle.std.specs.Prelude.{ℕ, List, [], ◌∷◌}

-- the header; the sites 10, 20, 30 and 40; the lines 1 to 5
unfoldable pub worked_file : List ℕ
worked_file =
    76 ∷ 78 ∷ 69 ∷ 84 ∷ 1 ∷ 2 ∷
    14 ∷ 0 ∷ 32 ∷ 0 ∷ 46 ∷ 0 ∷ 30 ∷ 0 ∷
    10 ∷ 0 ∷ 72 ∷ 73 ∷ 76 ∷ 76 ∷ 32 ∷ 32 ∷
    20 ∷ 0 ∷ 66 ∷ 65 ∷ 89 ∷ 32 ∷ 32 ∷ 32 ∷
    30 ∷ 0 ∷ 67 ∷ 65 ∷ 80 ∷ 69 ∷ 32 ∷ 32 ∷
    40 ∷ 0 ∷ 73 ∷ 83 ∷ 76 ∷ 69 ∷ 32 ∷ 32 ∷
    1 ∷ 0 ∷ 10 ∷ 0 ∷ 20 ∷ 0 ∷
    2 ∷ 0 ∷ 10 ∷ 0 ∷ 20 ∷ 0 ∷
    3 ∷ 0 ∷ 20 ∷ 0 ∷ 30 ∷ 0 ∷
    4 ∷ 0 ∷ 30 ∷ 0 ∷ 10 ∷ 0 ∷
    5 ∷ 0 ∷ 30 ∷ 0 ∷ 40 ∷ 0 ∷ []
