-- Laws of the words on lists: what stands in a list, in none twice, in both of two, and tests of every element.
use Rattle.std.proofs.Common.{◌≡◌, ℕ, zero, suc, ◌+◌, ◌<◌, ◌≤◌, Bool, true, false, cond, not, ◌&&◌, ◌||◌, eqb, ◌≢◌, ◌⊎◌, List, [], ◌∷◌, ◌++◌, map, length, get_or, sym, refl, ap, ◌∙◌, inl, inr, arith}
use mathlib.Core.Bool.{or_assoc, and_assoc}
use Rattle.std.proofs.lemmas.Bool.{eqb-true, eq-eqb, ne_eqb, cases_eq, cases_Bool, both_ways, and_parts, and_from, or_cases, or_parts, or_from, or_left, or_right, not-true, not_from_false}
use Rattle.network.specs.Lists.{among, distinct, every, meet}

-- what stands in a list

pub among_here : (x : ℕ) (xs : List ℕ) → among (x ∷ xs) x ≡ true
unfolding among
among_here x xs = or_left _ _ (eq-eqb x x refl)

pub among_later : (y x : ℕ) (ys : List ℕ) → among ys x ≡ true → among (y ∷ ys) x ≡ true
unfolding among
among_later y x ys h = or_right (eqb y x) _ h

pub among_cases : (y x : ℕ) (ys : List ℕ) → among (y ∷ ys) x ≡ true → (y ≡ x) ⊎ (among ys x ≡ true)
unfolding among
among_cases y x ys h = elim (or_cases (eqb y x) (among ys x) h) [ inl e ↦ inl (eqb-true y x e) | inr e ↦ inr e ]

pub among_skip : (y x : ℕ) (ys : List ℕ) → y ≢ x → among (y ∷ ys) x ≡ among ys x
unfolding among
among_skip y x ys ne = ap (λ b. b || among ys x) (ne_eqb y x ne)

pub among_nil : (x : ℕ) → among [] x ≡ false
unfolding among
among_nil x = refl

pub among_none : (x : ℕ) → among [] x ≡ true → ⊥
among_none x h = both_ways (among [] x) (among_nil x) h

-- not in the list: neither its first element nor in the rest
pub among_not : (y x : ℕ) (ys : List ℕ) → among (y ∷ ys) x ≡ false → (y ≢ x) × (among ys x ≡ false)
unfolding among
among_not y x ys h =
    let p = or_parts (eqb y x) (among ys x) h in (λ e. both_ways (eqb y x) p.0 (eq-eqb y x e), p.1)

pub among_append : (xs ys : List ℕ) (x : ℕ) → among (xs ++ ys) x ≡ (among xs x || among ys x)
unfolding among
among_append [] ys x = refl
among_append (z ∷ xs) ys x = ap (λ b. eqb z x || b) (among_append xs ys x) ∙ sym (or_assoc (eqb z x) (among xs x) (among ys x))

pub among_get_or : (xs : List ℕ) (i d : ℕ) → i < length xs → among xs (get_or xs i d) ≡ true
among_get_or [] i d h = absurd (let z : ⊥ = omega arith in z)
among_get_or (x ∷ xs) zero d h = among_here x xs
among_get_or (x ∷ xs) (suc i) d h = among_later x (get_or xs i d) xs (among_get_or xs i d (omega arith))

pub among_index : (xs : List ℕ) (x d : ℕ) → among xs x ≡ true → (i : ℕ) × (i < length xs) × (get_or xs i d ≡ x)
among_index [] x d h = absurd (among_none x h)
among_index (y ∷ xs) x d h =
    elim (among_cases y x xs h) [
      | inl e ↦ (0, omega arith, e)
      | inr a ↦ (let r = among_index xs x d a in (suc r.0, omega (arith, r.1), r.2))
    ]

pub among_map : (f : ℕ → ℕ) (xs : List ℕ) (x : ℕ) → among xs x ≡ true → among (map f xs) (f x) ≡ true
among_map f [] x h = absurd (among_none x h)
among_map f (y ∷ xs) x h =
    elim (among_cases y x xs h) [
      | inl e ↦ rw e (among_here (f x) (map f xs))
      | inr a ↦ among_later (f y) (f x) (map f xs) (among_map f xs x a)
    ]

-- tests of every element

module _ {X : Type 0} (P : X → Bool) where
  pub every_cons : (x : X) (xs : List X) → P x ≡ true → every P xs ≡ true → every P (x ∷ xs) ≡ true
  unfolding every
  every_cons x xs p q = and_from (P x) (every P xs) p q

  pub every_parts : (x : X) (xs : List X) → every P (x ∷ xs) ≡ true → (P x ≡ true) × (every P xs ≡ true)
  unfolding every
  every_parts x xs h = and_parts (P x) (every P xs) h

  pub every_none : every P [] ≡ true
  unfolding every
  every_none = refl

  pub every_append : (xs ys : List X) → every P (xs ++ ys) ≡ (every P xs && every P ys)
  unfolding every
  every_append [] ys = refl
  every_append (x ∷ xs) ys = ap (λ b. P x && b) (every_append xs ys) ∙ sym (and_assoc (P x) (every P xs) (every P ys))

  pub every_get_or : (xs : List X) (i : ℕ) (d : X) → every P xs ≡ true → i < length xs → P (get_or xs i d) ≡ true
  every_get_or [] i d h l = absurd (let z : ⊥ = omega arith in z)
  every_get_or (x ∷ xs) zero d h l = (every_parts x xs h).0
  every_get_or (x ∷ xs) (suc i) d h l = every_get_or xs i d (every_parts x xs h).1 (omega arith)

  pub every_from_get_or : (xs : List X) (d : X) → ((i : ℕ) → i < length xs → P (get_or xs i d) ≡ true) → every P xs ≡ true
  every_from_get_or [] d h = every_none
  every_from_get_or (x ∷ xs) d h = every_cons x xs (h 0 (omega arith)) (every_from_get_or xs d (λ i l. h (suc i) (omega arith)))

-- .. one test where another holds
pub every_weaker : {X : Type 0} (P Q : X → Bool) (xs : List X) → ((x : X) → P x ≡ true → Q x ≡ true) → every P xs ≡ true → every Q xs ≡ true
every_weaker P Q [] h e = every_none Q
every_weaker P Q (x ∷ xs) h e =
    let p = every_parts P x xs e in every_cons Q x xs (h x p.0) (every_weaker P Q xs h p.1)

pub every_among : (P : ℕ → Bool) (xs : List ℕ) (x : ℕ) → every P xs ≡ true → among xs x ≡ true → P x ≡ true
every_among P [] x h a = absurd (among_none x a)
every_among P (y ∷ xs) x h a =
    let p = every_parts P y xs h in
    elim (among_cases y x xs a) [ inl e ↦ ap P (sym e) ∙ p.0 | inr b ↦ every_among P xs x p.1 b ]

pub every_from_among : (P : ℕ → Bool) (xs : List ℕ) → ((x : ℕ) → among xs x ≡ true → P x ≡ true) → every P xs ≡ true
every_from_among P [] h = every_none P
every_from_among P (y ∷ xs) h =
    every_cons P y xs (h y (among_here y xs)) (every_from_among P xs (λ x a. h x (among_later y x xs a)))

-- a test that does not hold of x and holds of every element
pub among_by_test : (P : ℕ → Bool) (xs : List ℕ) (x : ℕ) → every P xs ≡ true → P x ≡ false → among xs x ≡ false
among_by_test P xs x h p =
    elim (cases_Bool (among xs x)) [ inl a ↦ absurd (both_ways (P x) p (every_among P xs x h a)) | inr a ↦ a ]

-- nothing twice

pub distinct_none : distinct [] ≡ true
unfolding distinct
distinct_none = refl

pub distinct_cons : (x : ℕ) (xs : List ℕ) → among xs x ≡ false → distinct xs ≡ true → distinct (x ∷ xs) ≡ true
unfolding distinct
distinct_cons x xs a d = and_from (not (among xs x)) (distinct xs) (not_from_false (among xs x) a) d

pub distinct_parts : (x : ℕ) (xs : List ℕ) → distinct (x ∷ xs) ≡ true → (among xs x ≡ false) × (distinct xs ≡ true)
unfolding distinct
distinct_parts x xs h =
    let p = and_parts (not (among xs x)) (distinct xs) h in (not-true (among xs x) p.0, p.1)

pub distinct_get_or : (xs : List ℕ) (i j d : ℕ) → distinct xs ≡ true → i < length xs → j < length xs → get_or xs i d ≡ get_or xs j d → i ≡ j
distinct_get_or [] i j d h l k e = absurd (let z : ⊥ = omega arith in z)
distinct_get_or (x ∷ xs) zero zero d h l k e = refl
distinct_get_or (x ∷ xs) zero (suc j) d h l k e =
    absurd (both_ways (among xs x) (distinct_parts x xs h).0 (ap (among xs) e ∙ among_get_or xs j d (omega arith)))
distinct_get_or (x ∷ xs) (suc i) zero d h l k e =
    absurd (both_ways (among xs x) (distinct_parts x xs h).0 (ap (among xs) (sym e) ∙ among_get_or xs i d (omega arith)))
distinct_get_or (x ∷ xs) (suc i) (suc j) d h l k e =
    ap suc (distinct_get_or xs i j d (distinct_parts x xs h).1 (omega arith) (omega arith) e)

pub distinct_from_get_or : (xs : List ℕ) (d : ℕ) → ((i j : ℕ) → i < length xs → j < length xs → get_or xs i d ≡ get_or xs j d → i ≡ j) → distinct xs ≡ true
distinct_from_get_or [] d h = distinct_none
distinct_from_get_or (x ∷ xs) d h =
    distinct_cons x xs fresh (distinct_from_get_or xs d (λ i j l k e. omega (arith, h (suc i) (suc j) (omega arith) (omega arith) e)))
  where
    fresh : among xs x ≡ false
    fresh = elim (cases_Bool (among xs x)) [
      | inl a ↦ (let r = among_index xs x d a in absurd (let z : ⊥ = omega (arith, h 0 (suc r.0) (omega arith) (omega (arith, r.1)) (sym r.2)) in z))
      | inr a ↦ a
    ]

-- no number in both lists

pub meet_none : (ys : List ℕ) → meet [] ys ≡ false
unfolding meet
meet_none ys = refl

pub meet_cons : (x : ℕ) (xs ys : List ℕ) → among ys x ≡ false → meet xs ys ≡ false → meet (x ∷ xs) ys ≡ false
unfolding meet
meet_cons x xs ys a h = or_from (among ys x) (meet xs ys) a h

pub meet_parts : (x : ℕ) (xs ys : List ℕ) → meet (x ∷ xs) ys ≡ false → (among ys x ≡ false) × (meet xs ys ≡ false)
unfolding meet
meet_parts x xs ys h = or_parts (among ys x) (meet xs ys) h

pub meet_among : (xs ys : List ℕ) (x : ℕ) → meet xs ys ≡ false → among xs x ≡ true → among ys x ≡ false
meet_among [] ys x h a = absurd (among_none x a)
meet_among (z ∷ xs) ys x h a =
    let p = meet_parts z xs ys h in
    elim (among_cases z x xs a) [ inl e ↦ ap (among ys) (sym e) ∙ p.0 | inr b ↦ meet_among xs ys x p.1 b ]

pub meet_from_among : (xs ys : List ℕ) → ((x : ℕ) → among xs x ≡ true → among ys x ≡ false) → meet xs ys ≡ false
meet_from_among [] ys h = meet_none ys
meet_from_among (z ∷ xs) ys h =
    meet_cons z xs ys (h z (among_here z xs)) (meet_from_among xs ys (λ x a. h x (among_later z x xs a)))

pub meet_swap : (xs ys : List ℕ) → meet xs ys ≡ false → meet ys xs ≡ false
meet_swap xs ys h = meet_from_among ys xs (λ x a. elim (cases_Bool (among xs x)) [
  | inl b ↦ absurd (both_ways (among ys x) (meet_among xs ys x h b) a)
  | inr b ↦ b
])

pub meet_append : (xs zs ys : List ℕ) → meet (xs ++ zs) ys ≡ (meet xs ys || meet zs ys)
unfolding meet
meet_append [] zs ys = refl
meet_append (x ∷ xs) zs ys = ap (λ b. among ys x || b) (meet_append xs zs ys) ∙ sym (or_assoc (among ys x) (meet xs ys) (meet zs ys))

pub distinct_append : (xs ys : List ℕ) → distinct xs ≡ true → distinct ys ≡ true → meet xs ys ≡ false → distinct (xs ++ ys) ≡ true
distinct_append [] ys p q h = q
distinct_append (x ∷ xs) ys p q h =
    let d = distinct_parts x xs p in let m = meet_parts x xs ys h in
    distinct_cons x (xs ++ ys) (among_append xs ys x ∙ or_from (among xs x) (among ys x) d.0 m.0)
    (distinct_append xs ys d.1 q m.1)

pub distinct_append_parts : (xs ys : List ℕ) → distinct (xs ++ ys) ≡ true → (distinct xs ≡ true) × (distinct ys ≡ true) × (meet xs ys ≡ false)
distinct_append_parts [] ys h = (distinct_none, h, meet_none ys)
distinct_append_parts (x ∷ xs) ys h =
    let d = distinct_parts x (xs ++ ys) h in
    let a = or_parts (among xs x) (among ys x) (sym (among_append xs ys x) ∙ d.0) in
    let r = distinct_append_parts xs ys d.1 in
    (distinct_cons x xs a.0 r.0, r.1, meet_cons x xs ys a.1 r.2)

-- counting: a list with nothing twice is no longer than one that holds all its elements

-- the list without the first x in it
unfoldable pub without : List ℕ → ℕ → List ℕ
without [] x = []
without (y ∷ ys) x = cond (eqb y x) ys (y ∷ without ys x)

pub length_without : (ys : List ℕ) (x : ℕ) → among ys x ≡ true → suc (length (without ys x)) ≡ length ys
unfolding without
length_without [] x a = absurd (among_none x a)
length_without (y ∷ ys) x a =
    elim (cases_eq y x) [
      | inl e ↦ rw (eq-eqb y x e)
      | inr ne ↦ rw (ne_eqb y x ne) (ap suc (length_without ys x (sym (among_skip y x ys ne) ∙ a)))
    ]

pub among_without : (ys : List ℕ) (x z : ℕ) → x ≢ z → among ys z ≡ true → among (without ys x) z ≡ true
unfolding without
among_without [] x z ne a = a
among_without (y ∷ ys) x z ne a =
    elim (cases_eq y x) [
      | inl e ↦ rw (eq-eqb y x e) (sym (among_skip y z ys (λ f. ne (sym e ∙ f))) ∙ a)
      | inr d ↦ rw (ne_eqb y x d) (elim (among_cases y z ys a) [
        | inl f ↦ rw f (among_here z (without ys x))
        | inr b ↦ among_later y z (without ys x) (among_without ys x z ne b)
      ])
    ]

pub distinct_fits : (xs ys : List ℕ) → distinct xs ≡ true → ((x : ℕ) → among xs x ≡ true → among ys x ≡ true) → length xs ≤ length ys
distinct_fits [] ys d h = omega arith
distinct_fits (x ∷ xs) ys d h =
    let p = distinct_parts x xs d in
    let rest : (z : ℕ) → among xs z ≡ true → among (without ys x) z ≡ true =
    λ z a. among_without ys x z (λ e. both_ways (among xs x) p.0 (ap (among xs) e ∙ a)) (h z (among_later x z xs a)) in
    omega (arith, length_without ys x (h x (among_here x xs)), distinct_fits xs (without ys x) p.1 rest)

-- so a longer one with nothing twice holds something that the other does not
pub distinct_beyond : (xs ys : List ℕ) → distinct xs ≡ true → length ys < length xs → (x : ℕ) × (among xs x ≡ true) × (among ys x ≡ false)
distinct_beyond xs ys d l =
    elim (seek xs ys) [ inl f ↦ f | inr h ↦ absurd (let z : ⊥ = omega (arith, distinct_fits xs ys d h) in z) ]
  where
    seek : (xs ys : List ℕ) → ((x : ℕ) × (among xs x ≡ true) × (among ys x ≡ false)) ⊎ ((x : ℕ) → among xs x ≡ true → among ys x ≡ true)
    seek [] ys = inr (λ x a. absurd (among_none x a))
    seek (z ∷ xs) ys =
        elim (cases_Bool (among ys z)) [
          | inl a ↦ elim (seek xs ys) [
            | inl f ↦ inl (f.0, among_later z f.0 xs f.1, f.2)
            | inr h ↦ inr (λ x b. elim (among_cases z x xs b) [ inl e ↦ ap (among ys) (sym e) ∙ a | inr c ↦ h x c ])
          ]
          | inr a ↦ inl (z, among_here z xs, a)
        ]

-- the numbers below n that pass a test, from the highest down
unfoldable pub passing : (ℕ → Bool) → ℕ → List ℕ
passing P zero = []
passing P (suc n) = cond (P n) (n ∷ passing P n) (passing P n)

passing_yes : (P : ℕ → Bool) (n : ℕ) → P n ≡ true → passing P (suc n) ≡ n ∷ passing P n
unfolding passing
passing_yes P n e = rw e

passing_no : (P : ℕ → Bool) (n : ℕ) → P n ≡ false → passing P (suc n) ≡ passing P n
unfolding passing
passing_no P n e = rw e

pub among_passing : (P : ℕ → Bool) (n x : ℕ) → x < n → P x ≡ true → among (passing P n) x ≡ true
among_passing P zero x l p = absurd (let z : ⊥ = omega arith in z)
among_passing P (suc n) x l p =
    elim (cases_eq n x) [
      | inl e ↦ ap (λ ys. among ys x) (passing_yes P n (ap P e ∙ p)) ∙ rw e (among_here x (passing P x))
      | inr ne ↦ elim (cases_Bool (P n)) [
        | inl q ↦ ap (λ ys. among ys x) (passing_yes P n q) ∙ among_later n x (passing P n) (among_passing P n x (omega arith) p)
        | inr q ↦ ap (λ ys. among ys x) (passing_no P n q) ∙ among_passing P n x (omega arith) p
      ]
    ]

pub passing_among : (P : ℕ → Bool) (n x : ℕ) → among (passing P n) x ≡ true → (x < n) × (P x ≡ true)
unfolding passing
passing_among P zero x a = absurd (among_none x a)
passing_among P (suc n) x a =
    elim (cases_Bool (P n)) [
      | inl q ↦ elim (among_cases n x (passing P n) (ap (λ ys. among ys x) (sym (passing_yes P n q)) ∙ a)) [
        | inl e ↦ (omega arith, ap P (sym e) ∙ q)
        | inr b ↦ (let r = passing_among P n x b in (omega (arith, r.0), r.1))
      ]
      | inr q ↦ (let r = passing_among P n x (ap (λ ys. among ys x) (sym (passing_no P n q)) ∙ a) in (omega (arith, r.0), r.1))
    ]

pub distinct_passing : (P : ℕ → Bool) (n : ℕ) → distinct (passing P n) ≡ true
unfolding passing
distinct_passing P zero = distinct_none
distinct_passing P (suc n) =
    elim (cases_Bool (P n)) [
      | inl q ↦ ap distinct (passing_yes P n q) ∙ distinct_cons n (passing P n) fresh (distinct_passing P n)
      | inr q ↦ ap distinct (passing_no P n q) ∙ distinct_passing P n
    ]
  where
    fresh : among (passing P n) n ≡ false
    fresh = elim (cases_Bool (among (passing P n) n)) [
      | inl a ↦ absurd (let z : ⊥ = omega (arith, (passing_among P n n a).0) in z)
      | inr a ↦ a
    ]

pub length_passing_le : (P : ℕ → Bool) (n : ℕ) → length (passing P n) ≤ n
unfolding passing
length_passing_le P zero = omega arith
length_passing_le P (suc n) =
    elim (cases_Bool (P n)) [
      | inl q ↦ rw q (omega (arith, length_passing_le P n))
      | inr q ↦ rw q (omega (arith, length_passing_le P n))
    ]

-- the number 0 and those above it
pub length_passing_suc : (P : ℕ → Bool) (n : ℕ) → length (passing P (suc n)) ≡ cond (P 0) 1 0 + length (passing (λ i. P (suc i)) n)
unfolding passing
length_passing_suc P zero = elim (cases_Bool (P 0)) [ inl q ↦ rw q | inr q ↦ rw q ]
length_passing_suc P (suc n) =
    elim (cases_Bool (P (suc n))) [
      | inl q ↦ ap length (passing_yes P (suc n) q) ∙ ap suc (length_passing_suc P n) ∙ rw q (omega arith)
      | inr q ↦ ap length (passing_no P (suc n) q) ∙ length_passing_suc P n ∙ rw q
    ]

-- a list with nothing twice of numbers below n has at most n of them
pub distinct_below : (xs : List ℕ) (n : ℕ) → distinct xs ≡ true → ((x : ℕ) → among xs x ≡ true → x < n) → length xs ≤ n
distinct_below xs n d h =
    omega (arith, distinct_fits xs (passing (λ _. true) n) d (λ x a. among_passing (λ _. true) n x (h x a) refl), length_passing_le (λ _. true) n)
