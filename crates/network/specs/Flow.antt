-- Marks on the lines: 0 for unused, 1 for carrying from the first place to the second, 2 for the other way.
use Rattle.std.specs.Prelude.{◌≡◌, ℕ, ◌+◌, ◌<◌, ◌≤◌, Bool, false, cond, List, [], ◌∷◌, length, ◌==◌, nat_eq, slice_index}
use Rattle.network.specs.declared.line.Line.{Line}
use Rattle.network.specs.Lines.{is_free, line_at}

abbrev pub mark_at : List ℕ → ℕ → ℕ
mark_at ms p = slice_index ms p

-- the sum of f over the lines, each with its mark
abbrev pub sum_marked : (Line → ℕ → ℕ) → List Line → List ℕ → ℕ
sum_marked f [] ms = 0
sum_marked f (l ∷ ls) [] = 0
sum_marked f (l ∷ ls) (m ∷ ms) = f l m + sum_marked f ls ms

abbrev pub one : Bool → ℕ
one t = cond t 1 0

-- 1 where the line carries away from a place of the set P, and where it carries to one
abbrev pub leaves : (ℕ → Bool) → Line → ℕ → ℕ
leaves P l m = cond (m == 1) (one (P l.first)) (cond (m == 2) (one (P l.second)) 0)

abbrev pub arrives : (ℕ → Bool) → Line → ℕ → ℕ
arrives P l m = cond (m == 1) (one (P l.second)) (cond (m == 2) (one (P l.first)) 0)

-- how many carrying lines leave places of the set P, and how many arrive at them
unfoldable pub outs : (ℕ → Bool) → List Line → List ℕ → ℕ
outs P ls ms = sum_marked (leaves P) ls ms

unfoldable pub ins : (ℕ → Bool) → List Line → List ℕ → ℕ
ins P ls ms = sum_marked (arrives P) ls ms

-- carrying lines leaving a place minus those arriving make v at a, minus v at b, and 0 at every other place
abbrev pub Balanced : List Line → List ℕ → ℕ → ℕ → ℕ → Type 0
Balanced ls ms a b v = (p : ℕ) → outs (nat_eq p) ls ms + cond (p == b) v 0 ≡ ins (nat_eq p) ls ms + cond (p == a) v 0

-- a mark is 0, 1 or 2, and 0 on a line that is not free
abbrev pub Marked : Line → ℕ → Type 0
Marked l m = (m ≤ 2) × (is_free l.state ≡ false → m ≡ 0)

abbrev pub AllMarked : List Line → List ℕ → Type 0
AllMarked ls ms = (p : ℕ) → p < length ls → Marked (line_at ls p) (mark_at ms p)
