-- Routes as a list of counts and positions: what a walk over such a list does.
use Rattle.std.proofs.Common.{◌≡◌, ℕ, zero, suc, ◌+◌, ◌-◌, ◌<◌, ◌≤◌, Bool, true, false, cond, ◌||◌, ◌≢◌, List, [], ◌∷◌, ◌++◌, map, length, get_or, drop, set, sym, refl, ap, ◌∙◌, inl, inr, sub-one, arith, length-set}
use Rattle.std.specs.List.{flat_map}
use Rattle.std.proofs.lemmas.List.{drop_more, drop_all, append_assoc, append-nil, get_or-set_same, get_or-set_other, length-append}
use Rattle.std.proofs.lemmas.Bool.{cases_eq, eq-eqb, ne_eqb}
use Rattle.network.specs.declared.line.Line.{Line}
use Rattle.network.specs.declared.line.LineState.TheVariants.{Held}
use Rattle.network.specs.Lines.{line_at, no_line}
use Rattle.network.specs.Lists.{among}
use Rattle.network.specs.Routes.{number_at, on_any, written}
use Rattle.network.proofs.Lists.{among_here, among_later, among_nil, among_append}
use Rattle.book.specs.declared.listing.Entry.TheVariants.{Count, Position}
use Rattle.book.specs.Ledger.{with_state}
use Rattle.book.specs.Tables.{lines_on}
use Rattle.book.specs.Listings.{Reads, positions_told, numbers_told, given_to}

-- one step of a walk: a count, or a line of the present route
module _ (xs : List ℕ) (i left : ℕ) (l : i < length xs) where
  pub positions_count : left ≡ 0 → positions_told left (drop i xs) ≡ positions_told (get_or xs i 0) (drop (i + 1) xs)
  unfolding positions_told
  positions_count z = rw (z, drop_more xs i 0 l) refl

  pub positions_line : left ≢ 0 → positions_told left (drop i xs) ≡ get_or xs i 0 ∷ positions_told (left - 1) (drop (i + 1) xs)
  unfolding positions_told
  positions_line ne = rw (drop_more xs i 0 l) (step left ne)
    where
      step : (n : ℕ) → n ≢ 0 → positions_told n (get_or xs i 0 ∷ drop (i + 1) xs) ≡ get_or xs i 0 ∷ positions_told (n - 1) (drop (i + 1) xs)
      step zero ne = absurd (ne refl)
      step (suc n) ne = rw (sub-one (suc n)) refl

  pub numbers_count : (ls : List Line) → left ≡ 0 → numbers_told ls left (drop i xs) ≡ get_or xs i 0 ∷ numbers_told ls (get_or xs i 0) (drop (i + 1) xs)
  unfolding numbers_told
  numbers_count ls z = rw (z, drop_more xs i 0 l) refl

  pub numbers_line : (ls : List Line) → left ≢ 0
      → numbers_told ls left (drop i xs) ≡ number_at ls (get_or xs i 0) ∷ numbers_told ls (left - 1) (drop (i + 1) xs)
  unfolding numbers_told
  numbers_line ls ne = rw (drop_more xs i 0 l) (step left ne)
    where
      step : (n : ℕ) → n ≢ 0
          → numbers_told ls n (get_or xs i 0 ∷ drop (i + 1) xs) ≡ number_at ls (get_or xs i 0) ∷ numbers_told ls (n - 1) (drop (i + 1) xs)
      step zero ne = absurd (ne refl)
      step (suc n) ne = rw (sub-one (suc n)) refl

pub positions_none : (left : ℕ) → positions_told left [] ≡ []
unfolding positions_told
positions_none zero = refl
positions_none (suc n) = refl

pub numbers_none : (ls : List Line) (left : ℕ) → numbers_told ls left [] ≡ []
unfolding numbers_told
numbers_none ls zero = refl
numbers_none ls (suc n) = refl

-- the walk has come to place i with `left` lines of the present route to come: what is left leads to what was wanted
pub record Giving (n m : ℕ) (xs : List ℕ) (start : List Line) (left i : ℕ) (ls : List Line) : Type 0 where
  pub leads : given_to n (positions_told left (drop i xs)) ls ≡ given_to n (positions_told 0 xs) start
  pub inside : (p : ℕ) → among (positions_told left (drop i xs)) p ≡ true → p < m

pub giving_count : (n m : ℕ) (xs : List ℕ) (start : List Line) (left i : ℕ) (ls : List Line) → Giving n m xs start left i ls
    → i < length xs → (left' count : ℕ) → Reads left (get_or xs i 0) left' (Count count) → Giving n m xs start left' (i + 1) ls
giving_count n m xs start left i ls g l left' count r =
    let e = positions_count xs i left l r.0 in
    rw r.1 (record { leads = rw e at g.leads; inside = rw e at g.inside })

pub giving_line : (n m : ℕ) (xs : List ℕ) (start : List Line) (left i : ℕ) (ls : List Line) → Giving n m xs start left i ls
    → i < length xs → (left' at' : ℕ) (ls' : List Line) → Reads left (get_or xs i 0) left' (Position at')
    → ls' ≡ set ls at' (with_state (Held n) (line_at ls at')) → Giving n m xs start left' (i + 1) ls'
unfolding given_to
giving_line n m xs start left i ls g l left' at' ls' r k =
    let e = positions_line xs i left l r.0 in
    let h = rw e at g.inside in
    let c : left' ≡ left - 1 = omega (arith, r.1) in
    rw (k, r.2, c) (record { leads = rw e at g.leads; inside = λ p a. h p (among_later (get_or xs i 0) p (positions_told (left - 1) (drop (i + 1) xs)) a) })

pub giving_inside : (n m : ℕ) (xs : List ℕ) (start : List Line) (left i : ℕ) (ls : List Line) → Giving n m xs start left i ls
    → i < length xs → (left' at' : ℕ) → Reads left (get_or xs i 0) left' (Position at') → at' < m
giving_inside n m xs start left i ls g l left' at' r =
    let h = rw (positions_line xs i left l r.0) at g.inside in
    rw r.2 (h (get_or xs i 0) (among_here (get_or xs i 0) (positions_told (left - 1) (drop (i + 1) xs))))

pub giving_all : (n m : ℕ) (xs : List ℕ) (start : List Line) (left i : ℕ) (ls : List Line) → Giving n m xs start left i ls
    → length xs ≤ i → ls ≡ given_to n (positions_told 0 xs) start
unfolding given_to
giving_all n m xs start left i ls g l =
    let e : positions_told left (drop i xs) ≡ [] = rw (drop_all i xs l) (positions_none left) in
    rw e at g.leads

-- likewise for writing numbers after those that stand already
pub record Telling (ls : List Line) (xs start : List ℕ) (left i : ℕ) (ns : List ℕ) : Type 0 where
  pub leads : ns ++ numbers_told ls left (drop i xs) ≡ start ++ numbers_told ls 0 xs
  pub inside : (p : ℕ) → among (positions_told left (drop i xs)) p ≡ true → p < length ls

one_more : (ns rest all : List ℕ) (y : ℕ) → ns ++ y ∷ rest ≡ all → (ns ++ y ∷ []) ++ rest ≡ all
one_more ns rest all y e = rw append_assoc e

pub telling_count : (ls : List Line) (xs start : List ℕ) (left i : ℕ) (ns : List ℕ) → Telling ls xs start left i ns
    → i < length xs → (left' count : ℕ) (ns' : List ℕ) → Reads left (get_or xs i 0) left' (Count count) → ns' ≡ ns ++ count ∷ []
    → Telling ls xs start left' (i + 1) ns'
telling_count ls xs start left i ns t l left' count ns' r k =
    rw (k, r.2, r.1) (record {
      leads = one_more ns _ _ (get_or xs i 0) (ap (λ (z : List ℕ). ns ++ z) (sym (numbers_count xs i left l ls r.0)) ∙ t.leads);
      inside = rw (positions_count xs i left l r.0) at t.inside;
    })

pub telling_line : (ls : List Line) (xs start : List ℕ) (left i : ℕ) (ns : List ℕ) → Telling ls xs start left i ns
    → i < length xs → (left' at' : ℕ) (ns' : List ℕ) → Reads left (get_or xs i 0) left' (Position at') → ns' ≡ ns ++ number_at ls at' ∷ []
    → Telling ls xs start left' (i + 1) ns'
telling_line ls xs start left i ns t l left' at' ns' r k =
    let h = rw (positions_line xs i left l r.0) at t.inside in
    let c : left' ≡ left - 1 = omega (arith, r.1) in
    rw (k, r.2, c) (record {
      leads = one_more ns _ _ (number_at ls (get_or xs i 0)) (ap (λ (z : List ℕ). ns ++ z) (sym (numbers_line xs i left l ls r.0)) ∙ t.leads);
      inside = λ p a. h p (among_later (get_or xs i 0) p (positions_told (left - 1) (drop (i + 1) xs)) a);
    })

pub telling_inside : (ls : List Line) (xs start : List ℕ) (left i : ℕ) (ns : List ℕ) → Telling ls xs start left i ns
    → i < length xs → (left' at' : ℕ) → Reads left (get_or xs i 0) left' (Position at') → at' < length ls
telling_inside ls xs start left i ns t l left' at' r =
    let h = rw (positions_line xs i left l r.0) at t.inside in
    rw r.2 (h (get_or xs i 0) (among_here (get_or xs i 0) (positions_told (left - 1) (drop (i + 1) xs))))

pub telling_all : (ls : List Line) (xs start : List ℕ) (left i : ℕ) (ns : List ℕ) → Telling ls xs start left i ns
    → length xs ≤ i → ns ≡ start ++ numbers_told ls 0 xs
telling_all ls xs start left i ns t l =
    let e : numbers_told ls left (drop i xs) ≡ [] = rw (drop_all i xs l) (numbers_none ls left) in
    sym (append-nil ns) ∙ rw e at t.leads

-- all lines of the routes, one route after the other
abbrev pub all_of : List (List ℕ) → List ℕ
all_of rs = flat_map (λ (r : List ℕ). r) rs

-- a written list tells its routes
pub positions_written : (rs : List (List ℕ)) → positions_told 0 (written (λ p. p) rs) ≡ all_of rs
unfolding positions_told written
positions_written [] = refl
positions_written (r ∷ rs) = along r (written (λ p. p) rs) ∙ ap (λ (z : List ℕ). r ++ z) (positions_written rs)
  where
    along : (r ws : List ℕ) → positions_told (length r) (map (λ (p : ℕ). p) r ++ ws) ≡ r ++ positions_told 0 ws
    along [] ws = refl
    along (p ∷ r) ws = ap (λ (z : List ℕ). p ∷ z) (along r ws)

pub numbers_written : (ls : List Line) (rs : List (List ℕ)) → numbers_told ls 0 (written (λ p. p) rs) ≡ written (number_at ls) rs
unfolding numbers_told written
numbers_written ls [] = refl
numbers_written ls (r ∷ rs) = ap (λ (z : List ℕ). length r ∷ z) (along r (written (λ p. p) rs) ∙ ap (λ (z : List ℕ). map (number_at ls) r ++ z) (numbers_written ls rs))
  where
    along : (r ws : List ℕ) → numbers_told ls (length r) (map (λ (p : ℕ). p) r ++ ws) ≡ map (number_at ls) r ++ numbers_told ls 0 ws
    along [] ws = refl
    along (p ∷ r) ws = ap (λ (z : List ℕ). number_at ls p ∷ z) (along r ws)

pub among_all : (rs : List (List ℕ)) (p : ℕ) → among (all_of rs) p ≡ on_any rs p
unfolding on_any
among_all [] p = among_nil p
among_all (r ∷ rs) p = among_append r (all_of rs) p ∙ ap (λ (t : Bool). among r p || t) (among_all rs p)

pub length_written : (f : ℕ → ℕ) (rs : List (List ℕ)) → length (written f rs) ≡ length rs + lines_on rs
unfolding written lines_on
length_written f [] = refl
length_written f (r ∷ rs) =
    let h = length_written f rs in
    simp (length-append, length_map') (omega arith)
  where
    length_map' : (r : List ℕ) → length (map f r) ≡ length r
    length_map' [] = refl
    length_map' (p ∷ r) = ap suc (length_map' r)

-- the lines after they were given to n, one by one
pub length_given : (n : ℕ) (ps : List ℕ) (ls : List Line) → length (given_to n ps ls) ≡ length ls
unfolding given_to
length_given n [] ls = refl
length_given n (p ∷ ps) ls = length_given n ps (set ls p (with_state (Held n) (line_at ls p))) ∙ length-set ls p (with_state (Held n) (line_at ls p))

pub line_given : (n : ℕ) (ps : List ℕ) (ls : List Line) (p : ℕ) → p < length ls
    → line_at (given_to n ps ls) p ≡ cond (among ps p) (with_state (Held n) (line_at ls p)) (line_at ls p)
unfolding given_to among
line_given n [] ls p l = refl
line_given n (q ∷ ps) ls p l =
    let ls' = set ls q (with_state (Held n) (line_at ls q)) in
    let r = line_given n ps ls' p (rw (length-set ls q (with_state (Held n) (line_at ls q))) l) in
    elim (cases_eq q p) [
      | inl e ↦
          let h : line_at ls' p ≡ with_state (Held n) (line_at ls p) =
          rw e (get_or-set_same ls p (with_state (Held n) (line_at ls p)) no_line l) in
          r ∙ rw (h, eq-eqb q p e) (again (among ps p) (line_at ls p))
      | inr ne ↦
          let h : line_at ls' p ≡ line_at ls p = get_or-set_other ls q p (with_state (Held n) (line_at ls q)) no_line (λ z. ne (sym z)) in
          r ∙ rw (h, ne_eqb q p ne) refl
    ]
  where
    again : (t : Bool) (l : Line) → cond t (with_state (Held n) (with_state (Held n) l)) (with_state (Held n) l) ≡ with_state (Held n) l
    again true l = refl
    again false l = refl
