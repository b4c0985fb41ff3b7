-- What a walk over the routes of a list tells of the list.
use Rattle.std.proofs.Common.{ℕ, List, [], ◌∷◌, map, Option, Some, None, sym, subst}
use Rattle.std.specs.Prelude.{option_map}
use Rattle.std.specs.Iterator.{Yields}
use Rattle.replies.specs.Listed.{NoRoute, GivesRoute, HoldsRoutes}

-- the routes that a walk gave before its end are those that the list holds
pub walked : {S A : Type 0} (steps : S → Option A → S → Type 0) (left : S → List ℕ) (numbers : A → List ℕ)
    → ((s : S) (r : Option A) (t : S) → steps s r t → GivesRoute (left s) (option_map numbers r) (left t))
    → (routes : List A) (s t u : S) → Yields steps s routes t → steps t None u → HoldsRoutes (left s) (map numbers routes)
walked steps left numbers each [] s t u y n = subst (λ x. NoRoute (left x)) (sym y) (each t None u n).1
walked steps left numbers each (x ∷ xs) s t u y n = (left y.0, each s (Some x) y.0 y.1, walked steps left numbers each xs y.0 t u y.2 n)
