-- A list from which the element at one place is removed.
use Rattle.std.proofs.Common.{◌≡◌, ℕ, zero, suc, ◌<◌, Bool, true, false, List, [], ◌∷◌, map, length, get_or, refl, ap, inl, inr, arith}
use Rattle.std.proofs.lemmas.Bool.{cases_Bool, both_ways}
use Rattle.std.specs.List.{remove}
use Rattle.network.specs.Lists.{among, distinct, every}
use Rattle.network.proofs.Lists.{among_here, among_later, among_cases, among_get_or, distinct_cons, distinct_parts, every_cons, every_parts}

pub map_removed : {X Y : Type 0} (f : X → Y) (xs : List X) (i : ℕ) → map f (remove xs i) ≡ remove (map f xs) i
map_removed f [] zero = refl
map_removed f [] (suc i) = refl
map_removed f (x ∷ xs) zero = refl
map_removed f (x ∷ xs) (suc i) = ap (λ ys. f x ∷ ys) (map_removed f xs i)

pub every_removed : {X : Type 0} (P : X → Bool) (xs : List X) (i : ℕ) → every P xs ≡ true → every P (remove xs i) ≡ true
every_removed P [] zero h = h
every_removed P [] (suc i) h = h
every_removed P (x ∷ xs) zero h = (every_parts P x xs h).1
every_removed P (x ∷ xs) (suc i) h =
    let p = every_parts P x xs h in every_cons P x (remove xs i) p.0 (every_removed P xs i p.1)

pub among_removed : (xs : List ℕ) (i z : ℕ) → among (remove xs i) z ≡ true → among xs z ≡ true
among_removed [] zero z h = h
among_removed [] (suc i) z h = h
among_removed (x ∷ xs) zero z h = among_later x z xs h
among_removed (x ∷ xs) (suc i) z h =
    elim (among_cases x z (remove xs i) h) [
      | inl e ↦ rw e (among_here z xs)
      | inr a ↦ among_later x z xs (among_removed xs i z a)
    ]

-- what is not in the list is not in what is left
pub among_not_removed : (xs : List ℕ) (i z : ℕ) → among xs z ≡ false → among (remove xs i) z ≡ false
among_not_removed xs i z h =
    elim (cases_Bool (among (remove xs i) z)) [
      | inl a ↦ absurd (both_ways (among xs z) h (among_removed xs i z a))
      | inr a ↦ a
    ]

pub distinct_removed : (xs : List ℕ) (i : ℕ) → distinct xs ≡ true → distinct (remove xs i) ≡ true
distinct_removed [] zero h = h
distinct_removed [] (suc i) h = h
distinct_removed (x ∷ xs) zero h = (distinct_parts x xs h).1
distinct_removed (x ∷ xs) (suc i) h =
    let p = distinct_parts x xs h in
    distinct_cons x (remove xs i) (among_not_removed xs i x p.0) (distinct_removed xs i p.1)

-- where nothing stands twice, the element is gone
pub removed_gone : (xs : List ℕ) (i d : ℕ) → distinct xs ≡ true → i < length xs → among (remove xs i) (get_or xs i d) ≡ false
removed_gone [] i d h l = absurd (let z : ⊥ = omega arith in z)
removed_gone (x ∷ xs) zero d h l = (distinct_parts x xs h).0
removed_gone (x ∷ xs) (suc i) d h l =
    let p = distinct_parts x xs h in
    elim (cases_Bool (among (x ∷ remove xs i) (get_or xs i d))) [
      | inl a ↦ elim (among_cases x (get_or xs i d) (remove xs i) a) [
        | inl e ↦ absurd (both_ways (among xs x) p.0 (rw e (among_get_or xs i d (omega arith))))
        | inr b ↦ absurd (both_ways (among (remove xs i) (get_or xs i d)) (removed_gone xs i d p.1 (omega arith)) b)
      ]
      | inr a ↦ a
    ]
