-- The table of worked cases. Most are computed; that three routes from 10 to 20 take just four lines is shown by
-- following every route.
use Rattle.std.proofs.Common.{◌≡◌, ℕ, zero, suc, ◌<◌, Bool, true, false, not, ◌&&◌, ◌||◌, eqb, ltb, ◌⊎◌, List, [], ◌∷◌, sym, refl, ap, ◌∙◌, subst, inl, inr, arith}
use Rattle.std.proofs.lemmas.Bool.{and_parts, and_from, or_cases, not-true, eqb-true, eq-eqb, false≢true, cases_eq}
use Rattle.std.proofs.lemmas.Bool.Decides.{nat_tests}
use Rattle.network.specs.declared.line.LineState.TheVariants.{Free}
use Rattle.network.specs.Lines.{line_at}
use Rattle.network.specs.Sides.{member}
use Rattle.network.specs.Cuts.{crossing, crossing_by, least, level_of}
use Rattle.network.specs.Groups.{lowest_by}
use Rattle.network.specs.Lists.{among, distinct, every, meet}
use Rattle.network.specs.Routes.{touches, other_end, chained, stops, end_of, route, separate, meets_any, on_any, FreeRoutes}
use Rattle.network.specs.Answers.{PartedBy}
use Rattle.cases.specs.Table.{worked, WorkedCases}
use Rattle.cases.proofs.Steps.{Onward, Stepped, onward_from_route, stepped, at_end}

-- one of the five lines
abbrev pub OneOf : ℕ → Type 0
OneOf p = (p ≡ 0) ⊎ ((p ≡ 1) ⊎ ((p ≡ 2) ⊎ ((p ≡ 3) ⊎ (p ≡ 4))))

pub one_of : (p : ℕ) → p < 5 → OneOf p
one_of p h = elim (cases_eq p 0) [
  | inl e ↦ inl e
  | inr n0 ↦ inr (elim (cases_eq p 1) [
    | inl e ↦ inl e
    | inr n1 ↦ inr (elim (cases_eq p 2) [
      | inl e ↦ inl e
      | inr n2 ↦ inr (elim (cases_eq p 3) [ inl e ↦ inl e | inr n3 ↦ inr (omega arith) ])
    ])
  ])
]

abbrev On : List ℕ → ℕ → List ℕ → Type 0
On seen x r = Onward (worked Free) 1 seen x r

-- a route that has come from 10 by 30 to 40 comes to no end
from_40 : (r : List ℕ) → On (3 ∷ 2 ∷ 0 ∷ []) 3 r → ⊥
unfolding chained stops end_of distinct among
from_40 [] h = let z : ◌≡◌ {A = ℕ} 3 1 = h.ends in omega arith
from_40 (p ∷ r) h = let s = stepped (worked Free) 1 (3 ∷ 2 ∷ 0 ∷ []) 3 p r h in go p (one_of p s.within) s
  where
    go : (p : ℕ) → OneOf p → Stepped (worked Free) 1 (3 ∷ 2 ∷ 0 ∷ []) 3 p r → ⊥
    go p (inl e) s = false≢true (subst (λ q. touches (line_at (worked Free) q) 3 ≡ true) e s.here)
    go p (inr (inl e)) s = false≢true (subst (λ q. touches (line_at (worked Free) q) 3 ≡ true) e s.here)
    go p (inr (inr (inl e))) s = false≢true (subst (λ q. touches (line_at (worked Free) q) 3 ≡ true) e s.here)
    go p (inr (inr (inr (inl e)))) s = false≢true (subst (λ q. touches (line_at (worked Free) q) 3 ≡ true) e s.here)
    go p (inr (inr (inr (inr e)))) s = false≢true (sym (subst (λ q. among (3 ∷ 2 ∷ 0 ∷ []) (other_end (line_at (worked Free) q) 3) ≡ false) e s.new))

-- from 10 by line 4 to 30 it goes on by line 3 to 20
from_30 : (r : List ℕ) → On (2 ∷ 0 ∷ []) 2 r → r ≡ 2 ∷ []
unfolding chained stops end_of distinct among
from_30 [] h = absurd (let z : ◌≡◌ {A = ℕ} 2 1 = h.ends in let w : ⊥ = omega arith in w)
from_30 (p ∷ r) h = let s = stepped (worked Free) 1 (2 ∷ 0 ∷ []) 2 p r h in go p (one_of p s.within) s
  where
    go : (p : ℕ) → OneOf p → Stepped (worked Free) 1 (2 ∷ 0 ∷ []) 2 p r → p ∷ r ≡ 2 ∷ []
    go p (inl e) s = absurd (false≢true (subst (λ q. touches (line_at (worked Free) q) 2 ≡ true) e s.here))
    go p (inr (inl e)) s = absurd (false≢true (subst (λ q. touches (line_at (worked Free) q) 2 ≡ true) e s.here))
    go p (inr (inr (inl e))) s =
        let o : On (1 ∷ 2 ∷ 0 ∷ []) 1 r = subst (λ q. On (other_end (line_at (worked Free) q) 2 ∷ 2 ∷ 0 ∷ []) (other_end (line_at (worked Free) q) 2) r) e s.on in
        let t = at_end (worked Free) 1 (1 ∷ 2 ∷ 0 ∷ []) r refl o in cc
    go p (inr (inr (inr (inl e)))) s = absurd (false≢true (sym (subst (λ q. among (2 ∷ 0 ∷ []) (other_end (line_at (worked Free) q) 2) ≡ false) e s.new)))
    go p (inr (inr (inr (inr e)))) s =
        absurd (from_40 r (subst (λ q. On (other_end (line_at (worked Free) q) 2 ∷ 2 ∷ 0 ∷ []) (other_end (line_at (worked Free) q) 2) r) e s.on))

-- the three routes from 10 to 20
abbrev Which : List ℕ → Type 0
Which r = (r ≡ 0 ∷ []) ⊎ ((r ≡ 1 ∷ []) ⊎ (r ≡ 3 ∷ 2 ∷ []))

from_10 : (r : List ℕ) → On (0 ∷ []) 0 r → Which r
unfolding chained stops end_of distinct among
from_10 [] h = absurd (let z : ◌≡◌ {A = ℕ} 0 1 = h.ends in let w : ⊥ = omega arith in w)
from_10 (p ∷ r) h = let s = stepped (worked Free) 1 (0 ∷ []) 0 p r h in go p (one_of p s.within) s
  where
    done : (q p : ℕ) → p ≡ q → other_end (line_at (worked Free) q) 0 ≡ 1 → Stepped (worked Free) 1 (0 ∷ []) 0 p r → p ∷ r ≡ q ∷ []
    done q p e f s =
        let o : On (1 ∷ 0 ∷ []) 1 r = subst (λ y. On (y ∷ 0 ∷ []) y r) f (subst (λ q. On (other_end (line_at (worked Free) q) 0 ∷ 0 ∷ []) (other_end (line_at (worked Free) q) 0) r) e s.on) in
        let t = at_end (worked Free) 1 (1 ∷ 0 ∷ []) r refl o in cc

    go : (p : ℕ) → OneOf p → Stepped (worked Free) 1 (0 ∷ []) 0 p r → Which (p ∷ r)
    go p (inl e) s = inl (done 0 p e refl s)
    go p (inr (inl e)) s = inr (inl (done 1 p e refl s))
    go p (inr (inr (inl e))) s = absurd (false≢true (subst (λ q. touches (line_at (worked Free) q) 0 ≡ true) e s.here))
    go p (inr (inr (inr (inl e)))) s =
        let t = from_30 r (subst (λ q. On (other_end (line_at (worked Free) q) 0 ∷ 0 ∷ []) (other_end (line_at (worked Free) q) 0) r) e s.on) in
        inr (inr (cc))
    go p (inr (inr (inr (inr e)))) s = absurd (false≢true (subst (λ q. touches (line_at (worked Free) q) 0 ≡ true) e s.here))

which : (r : List ℕ) → route (worked Free) 0 1 r ≡ true → Which r
which r h = from_10 r (onward_from_route (worked Free) 0 1 r h)

-- of three separate ones no two are the same, so they are all three, in some order
data Kind : Type 0 where
  upper : Kind
  lower : Kind
  round : Kind

abbrev path : Kind → List ℕ
path upper = 0 ∷ []
path lower = 1 ∷ []
path round = 3 ∷ 2 ∷ []

abbrev Take : List ℕ → List ℕ → List ℕ → Type 0
Take r s t = separate (r ∷ s ∷ t ∷ []) ≡ true → (p : ℕ) → on_any (r ∷ s ∷ t ∷ []) p ≡ ltb p 4

taken_kinds : (i j k : Kind) → Take (path i) (path j) (path k)
unfolding separate meets_any meet among on_any
taken_kinds upper upper k h p = absurd (false≢true h)
taken_kinds upper lower upper h p = absurd (false≢true h)
taken_kinds upper lower lower h p = absurd (false≢true h)
taken_kinds upper lower round h p = grind (arith, nat_tests)
taken_kinds upper round upper h p = absurd (false≢true h)
taken_kinds upper round lower h p = grind (arith, nat_tests)
taken_kinds upper round round h p = absurd (false≢true h)
taken_kinds lower upper upper h p = absurd (false≢true h)
taken_kinds lower upper lower h p = absurd (false≢true h)
taken_kinds lower upper round h p = grind (arith, nat_tests)
taken_kinds lower lower k h p = absurd (false≢true h)
taken_kinds lower round upper h p = grind (arith, nat_tests)
taken_kinds lower round lower h p = absurd (false≢true h)
taken_kinds lower round round h p = absurd (false≢true h)
taken_kinds round upper upper h p = absurd (false≢true h)
taken_kinds round upper lower h p = grind (arith, nat_tests)
taken_kinds round upper round h p = absurd (false≢true h)
taken_kinds round lower upper h p = grind (arith, nat_tests)
taken_kinds round lower lower h p = absurd (false≢true h)
taken_kinds round lower round h p = absurd (false≢true h)
taken_kinds round round k h p = absurd (false≢true h)

kind : (r : List ℕ) → Which r → (i : Kind) × (path i ≡ r)
kind r (inl e) = (upper, sym e)
kind r (inr (inl e)) = (lower, sym e)
kind r (inr (inr e)) = (round, sym e)

taken : (r s t : List ℕ) → Which r → Which s → Which t → Take r s t
taken r s t hr hs ht =
    let i = kind r hr in let j = kind s hs in let k = kind t ht in
    subst (λ x. Take x s t) i.1 (subst (λ y. Take (path i.0) y t) j.1 (subst (λ z. Take (path i.0) (path j.0) z) k.1 (taken_kinds i.0 j.0 k.0)))

three_take : (rs : List (List ℕ)) → FreeRoutes (worked Free) 0 1 3 rs → (p : ℕ) → on_any rs p ≡ ltb p 4
unfolding every
three_take [] f = absurd (let z : ◌≡◌ {A = ℕ} 0 3 = f.separates.many in let w : ⊥ = omega arith in w)
three_take (r ∷ []) f = absurd (let z : ◌≡◌ {A = ℕ} 1 3 = f.separates.many in let w : ⊥ = omega arith in w)
three_take (r ∷ s ∷ []) f = absurd (let z : ◌≡◌ {A = ℕ} 2 3 = f.separates.many in let w : ⊥ = omega arith in w)
three_take (r ∷ s ∷ t ∷ []) f =
    let a = and_parts _ _ f.separates.routes in
    let b = and_parts _ _ a.1 in
    let c = and_parts _ _ b.1 in
    taken r s t (which r a.0) (which s b.0) (which t c.0) f.separates.apart
three_take (r ∷ s ∷ t ∷ u ∷ rs) f = absurd (let z = f.separates.many in let w : ⊥ = omega arith in w)

-- each side below 16 is 8, or does not part 40 from 20, or is not crossed by just one line
abbrev fits : ℕ → Bool
fits s = member s 3 && (not (member s 1) && eqb (crossing (worked Free) s) 1)

abbrev only : ℕ → Bool
only s = not (fits s) || eqb s 8

below_all : (ℕ → Bool) → ℕ → Bool
below_all P zero = true
below_all P (suc n) = P n && below_all P n

below_each : (P : ℕ → Bool) (n s : ℕ) → below_all P n ≡ true → s < n → P s ≡ true
unfolding below_all
below_each P zero s h l = absurd (let w : ⊥ = omega arith in w)
below_each P (suc n) s h l =
    let q = and_parts _ _ h in
    elim (cases_eq s n) [ inl e ↦ subst (λ z. P z ≡ true) (sym e) q.0 | inr ne ↦ below_each P n s q.1 (omega arith) ]

sixteen : below_all only 16 ≡ true
unfolding below_all crossing_by
sixteen = refl

only_8 : (s : ℕ) → PartedBy 4 (worked Free) 3 1 1 s → s ≡ 8
only_8 s h =
    let f : fits s ≡ true = and_from _ _ h.has_a (and_from _ _ (ap not h.lacks_b) (eq-eqb _ _ h.crossed)) in
    elim (or_cases _ _ (below_each only 16 s sixteen h.within)) [
      | inl n ↦ absurd (false≢true (sym (not-true _ n) ∙ f))
      | inr e ↦ eqb-true s 8 e
    ]

pub worked_cases : WorkedCases
unfolding level_of least crossing_by lowest_by every chained stops end_of distinct among separate meets_any meet
worked_cases = record {
  level_10_20 = refl;
  level_10_30 = refl;
  level_30_40 = refl;
  groups_1 = refl;
  groups_2 = refl;
  groups_3 = refl;
  groups_4 = refl;
  crossing_10_30 = refl;
  three_routes = record { separates = record { many = refl; routes = refl; apart = refl }; all_free = refl };
  three_routes_take = three_take;
  groups_held = refl;
  level_relayed = refl;
  none_between = refl;
  level_40_20 = refl;
  side_40 = record { has_a = refl; lacks_b = refl; within = omega arith; crossed = refl };
  only_side_40 = only_8;
}
