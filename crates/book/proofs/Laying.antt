-- Lists that are laid out, or changed, place by place.
use Rattle.std.proofs.Common.{◌≡◌, ℕ, ◌+◌, ◌-◌, ◌<◌, ◌≤◌, List, [], ◌∷◌, ◌++◌, map, length, get_or, take, drop, Some, None, sym, refl, ap, ◌∙◌, arith}
use Rattle.std.specs.List.{slice_get}
use Rattle.std.proofs.lemmas.List.{take_more, ext_get_or, length-map, length-take-le, length-drop, get_or-take, get_or-drop, get_or-map, take-append-drop}
use Rattle.std.proofs.lemmas.Option.{slice_get-get_or}

-- what stands at a place is the next to be laid
pub laid_more : {X : Type 0} (xs ys ys' : List X) (i : ℕ) (x : X) → i < length xs → ys ≡ take i xs → Some x ≡ slice_get xs i → ys' ≡ ys ++ x ∷ []
    → ys' ≡ take (i + 1) xs
laid_more xs ys ys' i x l e here p =
    let there = slice_get-get_or xs i x l in
    let same : x ≡ get_or xs i x = cc in
    p ∙ rw e (ap (λ (y : _). take i xs ++ y ∷ []) same ∙ sym (take_more xs i x l))

pub laid_there : {X : Type 0} (xs : List X) (i : ℕ) → i < length xs → None ≡ slice_get xs i → ⊥
laid_there [] i l e = omega (arith, l)
laid_there (x ∷ xs) i l e = let there = slice_get-get_or (x ∷ xs) i x l in let z : ◌≡◌ {A = ℕ} 0 1 = cc in omega arith

-- the first n elements are mapped, and the rest is as it was
pub named : (n : ℕ) (f : ℕ → ℕ) (list xs ys gs : List ℕ) → n ≤ length xs → length ys ≡ length xs → take n xs ≡ gs → drop n xs ≡ drop n list
    → ((i : ℕ) → i < n → get_or ys i 0 ≡ f (get_or xs i 0)) → ((i : ℕ) → n ≤ i → get_or ys i 0 ≡ get_or xs i 0)
    → ys ≡ map f gs ++ drop n list
named n f list xs ys gs room size front back here past =
    let mapped : take n ys ≡ map f (take n xs) =
    ext_get_or 0 (take n ys) (map f (take n xs))
    (length-take-le n ys (omega arith) ∙ sym (length-map (take n xs) f ∙ length-take-le n xs room))
    (λ i l. let below : i < n = omega (arith, l, length-take-le n ys (omega arith)) in
    get_or-take n ys i 0 below ∙ here i below ∙ sym (get_or-map f (take n xs) i 0 0 (omega (arith, below, length-take-le n xs room)) ∙ ap f (get_or-take n xs i 0 below))) in
    let kept : drop n ys ≡ drop n xs =
    ext_get_or 0 (drop n ys) (drop n xs) (length-drop n ys ∙ ap (λ (m : ℕ). m - n) size ∙ sym (length-drop n xs))
    (λ i l. get_or-drop n ys i 0 ∙ past (n + i) (omega arith) ∙ sym (get_or-drop n xs i 0)) in
    sym (take-append-drop n ys) ∙ rw (mapped, kept, front, back) refl
