-- What holding routes and freeing lines does to the counts of lines.
use Rattle.std.proofs.Common.{◌≡◌, ℕ, ◌+◌, ◌*◌, ◌<◌, ◌≤◌, Bool, true, false, cond, ◌||◌, eqb, ◌≢◌, List, [], ◌∷◌, length, sym, refl, ap, ◌∙◌, subst, inl, inr, add-zero, zero-add, arith}
use Rattle.std.proofs.lemmas.Bool.{false≢true, both_ways, cases_Bool, eq-eqb, ne_eqb, eqb-true, or_cases}
use Rattle.network.specs.declared.line.Line.{Line}
use Rattle.network.specs.declared.line.LineState.{LineState}
use Rattle.network.specs.declared.line.LineState.TheVariants.{Free, Held}
use Rattle.network.specs.Lines.{is_free, line_at, Joins, AllJoin}
use Rattle.network.specs.Groups.{tally}
use Rattle.network.specs.Lists.{among, distinct, every}
use Rattle.network.specs.Routes.{touches, other_end, chained, stops, end_of, route, free_at, free_route, separate, on_any, written, FreeRoutes}
use Rattle.network.proofs.Lists.{among_here, among_later, among_cases, among_none, every_parts, every_among, distinct_none, distinct_cons, distinct_parts}
use Rattle.network.proofs.Chains.{other_end_cases, chained_parts, chained_below, stops_cons, route_parts, on_any_none, on_any_cases, meets_any_among, separate_parts}
use Rattle.network.proofs.ReadBack.{length_written_cons, written_none}
use Rattle.book.specs.Ledger.{with_state}
use Rattle.book.specs.Tables.{held_by, free_count, owned, lines_on}
use Rattle.book.proofs.Tallies.{one, tally_same, tally_parts, tally_zero, zero_tally, tally_among}

-- a chain passes both places of each of its lines
ends_passed : (ls : List Line) (x : ℕ) (r : List ℕ) (p z : ℕ) → chained ls x r ≡ true → among r p ≡ true → touches (line_at ls p) z ≡ true
    → among (x ∷ stops ls x r) z ≡ true
ends_passed ls x [] p z c a t = absurd (among_none p a)
ends_passed ls x (q ∷ r) p z c a t =
    let s = chained_parts ls x q r c in
    let next = other_end (line_at ls q) x in
    let later : among (next ∷ stops ls next r) z ≡ true → among (x ∷ stops ls x (q ∷ r)) z ≡ true =
    λ h. among_later x z (stops ls x (q ∷ r)) (ap (λ (l : List ℕ). among l z) (stops_cons ls x q r) ∙ h) in
    elim (among_cases q p r a) [
      | inl e ↦ here (line_at ls q) x z (stops ls x (q ∷ r)) next s.1 (ap (λ (i : ℕ). touches (line_at ls i) z) e ∙ t)
          (λ h. later (ap (λ (i : ℕ). among (next ∷ stops ls next r) i) (sym h) ∙ among_here next (stops ls next r))) refl
      | inr h ↦ later (ends_passed ls next r p z s.2 h t)
    ]
  where
    here : (l : Line) (x z : ℕ) (rest : List ℕ) (next : ℕ) → touches l x ≡ true → touches l z ≡ true
        → (next ≡ z → among (x ∷ rest) z ≡ true) → next ≡ other_end l x → among (x ∷ rest) z ≡ true
    here l x z rest next tx tz f e =
        elim (other_end_cases l x tx) [
          | inl c ↦
              elim (or_cases (eqb l.first z) (eqb l.second z) tz) [
                | inl h ↦ ap (among (x ∷ rest)) (sym (eqb-true l.first z h) ∙ c.0) ∙ among_here x rest
                | inr h ↦ f (e ∙ c.1 ∙ eqb-true l.second z h)
              ]
          | inr c ↦
              elim (or_cases (eqb l.first z) (eqb l.second z) tz) [
                | inl h ↦ f (e ∙ c.1 ∙ eqb-true l.first z h)
                | inr h ↦ ap (among (x ∷ rest)) (sym (eqb-true l.second z h) ∙ c.0) ∙ among_here x rest
              ]
        ]

-- a chain that passes no place twice has no line twice
chain_distinct : (ls : List Line) (x : ℕ) (r : List ℕ) → chained ls x r ≡ true → distinct (x ∷ stops ls x r) ≡ true → distinct r ≡ true
chain_distinct ls x [] c d = distinct_none
chain_distinct ls x (p ∷ r) c d =
    let s = chained_parts ls x p r c in
    let next = other_end (line_at ls p) x in
    let q = distinct_parts x (stops ls x (p ∷ r)) d in
    let new : among (next ∷ stops ls next r) x ≡ false = ap (λ (l : List ℕ). among l x) (sym (stops_cons ls x p r)) ∙ q.0 in
    distinct_cons p r
    (elim (cases_Bool (among r p)) [
      | inl a ↦ absurd (both_ways (among (next ∷ stops ls next r) x) new (ends_passed ls next r p x s.2 a s.1))
      | inr a ↦ a
    ])
    (chain_distinct ls next r s.2 (ap distinct (sym (stops_cons ls x p r)) ∙ q.1))

pub route_distinct : (ls : List Line) (a b : ℕ) (r : List ℕ) → route ls a b r ≡ true → distinct r ≡ true
route_distinct ls a b r h = let p = route_parts ls a b r h in chain_distinct ls a r p.0 p.2

-- a line that is on a route is in the table
pub on_any_below : (ls : List Line) (a b : ℕ) (rs : List (List ℕ)) (p : ℕ) → every (route ls a b) rs ≡ true → on_any rs p ≡ true → p < length ls
on_any_below ls a b [] p h o = absurd (on_any_none p o)
on_any_below ls a b (r ∷ rs) p h o =
    let q = every_parts (route ls a b) r rs h in
    elim (on_any_cases r rs p o) [
      | inl e ↦ chained_below ls a r p (route_parts ls a b r q.0).0 e
      | inr e ↦ on_any_below ls a b rs p q.1 e
    ]

-- and is free where all of them are
pub on_any_free : (ls : List Line) (rs : List (List ℕ)) (p : ℕ) → every (free_route ls) rs ≡ true → on_any rs p ≡ true
    → is_free (line_at ls p).state ≡ true
on_any_free ls [] p h o = absurd (on_any_none p o)
on_any_free ls (r ∷ rs) p h o =
    let q = every_parts (free_route ls) r rs h in
    elim (on_any_cases r rs p o) [ inl e ↦ every_among (free_at ls) r p q.0 e | inr e ↦ on_any_free ls rs p q.1 e ]

-- as many lines are on separate routes as these have all together
pub tally_on_any : (ls : List Line) (a b : ℕ) (rs : List (List ℕ)) → every (route ls a b) rs ≡ true → separate rs ≡ true
    → tally (on_any rs) (length ls) ≡ lines_on rs
unfolding lines_on on_any
tally_on_any ls a b [] h s = tally_zero (on_any []) (length ls) (λ p l. refl)
tally_on_any ls a b (r ∷ rs) h s =
    let q = every_parts (route ls a b) r rs h in
    let t = separate_parts r rs s in
    let c = (route_parts ls a b r q.0).0 in
    let mine = tally_among (length ls) r (route_distinct ls a b r q.0) (λ p e. chained_below ls a r p c e) in
    let rest = tally_on_any ls a b rs q.1 t.1 in
    let both = tally_parts (on_any (r ∷ rs)) (among r) (on_any rs) (length ls)
    (λ p l. either (among r p) (on_any rs p) (λ e. meets_any_among r rs p t.0 e)) in
    omega (arith, mine, rest, both)
  where
    either : (x y : Bool) → (x ≡ true → y ≡ false) → one (x || y) ≡ one x + one y
    either true y f = rw (f refl) refl
    either false y f = sym (zero-add (one y))

-- a route between two different places has a line
some_line : (ls : List Line) (a b : ℕ) (r : List ℕ) → a ≢ b → route ls a b r ≡ true → 1 ≤ length r
unfolding end_of
some_line ls a b [] ne h = absurd (ne (route_parts ls a b [] h).1)
some_line ls a b (p ∷ r) ne h = omega arith

-- so the numbers that are shown for such routes are at most two for each line
pub written_short : (f : ℕ → ℕ) (ls : List Line) (a b : ℕ) (rs : List (List ℕ)) → a ≢ b → every (route ls a b) rs ≡ true
    → length (written f rs) ≤ 2 * lines_on rs
unfolding lines_on
written_short f ls a b [] ne h = omega (arith, ap length (written_none f))
written_short f ls a b (r ∷ rs) ne h =
    let q = every_parts (route ls a b) r rs h in
    omega (arith, length_written_cons f r rs, some_line ls a b r ne q.0, written_short f ls a b rs ne q.1)

-- and there are as many lines as routes at least
pub lines_on_many : (ls : List Line) (a b : ℕ) (rs : List (List ℕ)) → a ≢ b → every (route ls a b) rs ≡ true → length rs ≤ lines_on rs
unfolding lines_on
lines_on_many ls a b [] ne h = omega arith
lines_on_many ls a b (r ∷ rs) ne h =
    let q = every_parts (route ls a b) r rs h in omega (arith, some_line ls a b r ne q.0, lines_on_many ls a b rs ne q.1)

-- the tests of a line under a new state
one_held : (t : Bool) (l : Line) (n : ℕ) → (t ≡ true → is_free l.state ≡ true)
    → one (is_free l.state) ≡ one (is_free (cond t (with_state (Held n) l) l).state) + one t
one_held true l n h = ap one (h refl) ∙ sym (zero-add 1)
one_held false l n h = sym (add-zero (one (is_free l.state)))

new_held : (t : Bool) (l : Line) (n : ℕ) → held_by n l.state ≡ false → held_by n (cond t (with_state (Held n) l) l).state ≡ t
new_held true l n h = eq-eqb n n refl
new_held false l n h = h

free_held : (s : LineState) (m : ℕ) → is_free s ≡ true → held_by m s ≡ false
free_held Free m h = refl
free_held (Held k) m h = absurd (false≢true h)

other_held : (t : Bool) (l : Line) (n m : ℕ) → n ≢ m → (t ≡ true → is_free l.state ≡ true)
    → held_by m (cond t (with_state (Held n) l) l).state ≡ held_by m l.state
other_held true l n m ne h = ne_eqb n m ne ∙ sym (free_held l.state m (h refl))
other_held false l n m ne h = refl

-- the lines of free separate routes are given to n
module _ (ls ls' : List Line) (a b k : ℕ) (rs : List (List ℕ)) (n : ℕ)
    (chosen : FreeRoutes ls a b k rs)
    (size : length ls' ≡ length ls)
    (line : (p : ℕ) → p < length ls → line_at ls' p ≡ cond (on_any rs p) (with_state (Held n) (line_at ls p)) (line_at ls p)) where
  many : tally (on_any rs) (length ls) ≡ lines_on rs
  many = tally_on_any ls a b rs chosen.separates.routes chosen.separates.apart

  pub free_taken : free_count ls ≡ free_count ls' + lines_on rs
  free_taken =
      let t = tally_parts (λ p. is_free (line_at ls p).state) (λ p. is_free (line_at ls' p).state) (on_any rs) (length ls)
      (λ p l. one_held (on_any rs p) (line_at ls p) n (λ h. on_any_free ls rs p chosen.all_free h)
      ∙ ap (λ (x : Line). one (is_free x.state) + one (on_any rs p)) (sym (line p l))) in
      rw size (t ∙ ap (λ (x : ℕ). tally (λ p. is_free (line_at ls' p).state) (length ls) + x) many)

  pub owned_new : owned ls n ≡ 0 → owned ls' n ≡ lines_on rs
  owned_new z =
      rw size
      (tally_same (λ p. held_by n (line_at ls' p).state) (on_any rs) (length ls)
      (λ p l. ap (λ (x : Line). held_by n x.state) (line p l)
      ∙ new_held (on_any rs p) (line_at ls p) n (zero_tally (λ q. held_by n (line_at ls q).state) (length ls) z p l))
      ∙ many)

  pub owned_other : (m : ℕ) → n ≢ m → owned ls' m ≡ owned ls m
  owned_other m ne =
      rw size
      (tally_same (λ p. held_by m (line_at ls' p).state) (λ p. held_by m (line_at ls p).state) (length ls)
      (λ p l. ap (λ (x : Line). held_by m x.state) (line p l)
      ∙ other_held (on_any rs p) (line_at ls p) n m ne (λ h. on_any_free ls rs p chosen.all_free h)))

-- the lines of j are freed
freed_state : (t : Bool) (l : Line) → (cond t (with_state Free l) l).state ≡ cond t Free l.state
freed_state true l = refl
freed_state false l = refl

one_back : (s : LineState) (j : ℕ) → one (is_free (cond (held_by j s) Free s)) ≡ one (is_free s) + one (held_by j s)
one_back Free j = refl
one_back (Held m) j = by (eqb m j)
  where
    by : (t : Bool) → one (is_free (cond t Free (Held m))) ≡ 0 + one t
    by true = refl
    by false = refl

gone_back : (s : LineState) (j : ℕ) → held_by j (cond (held_by j s) Free s) ≡ false
gone_back Free j = refl
gone_back (Held m) j = elim (cases_Bool (eqb m j)) [ inl e ↦ rw e refl | inr e ↦ rw e e ]

rest_back : (s : LineState) (j m : ℕ) → j ≢ m → held_by m (cond (held_by j s) Free s) ≡ held_by m s
rest_back Free j m ne = refl
rest_back (Held k) j m ne =
    elim (cases_Bool (eqb k j)) [
      | inl e ↦ let q = eqb-true k j e in rw e (sym (ne_eqb k m (λ w. ne (sym q ∙ w))))
      | inr e ↦ rw e refl
    ]

module _ (ls ls' : List Line) (j : ℕ)
    (size : length ls' ≡ length ls)
    (line : (p : ℕ) → p < length ls → line_at ls' p ≡ cond (held_by j (line_at ls p).state) (with_state Free (line_at ls p)) (line_at ls p)) where
  pub state_freed : (p : ℕ) → p < length ls → (line_at ls' p).state ≡ cond (held_by j (line_at ls p).state) Free (line_at ls p).state
  state_freed p l = ap (λ (x : Line). x.state) (line p l) ∙ freed_state (held_by j (line_at ls p).state) (line_at ls p)

  pub free_back : free_count ls' ≡ free_count ls + owned ls j
  free_back =
      rw size
      (tally_parts (λ p. is_free (line_at ls' p).state) (λ p. is_free (line_at ls p).state) (λ p. held_by j (line_at ls p).state) (length ls)
      (λ p l. ap (λ (x : LineState). one (is_free x)) (state_freed p l) ∙ one_back (line_at ls p).state j))

  pub owned_gone : owned ls' j ≡ 0
  owned_gone =
      rw size
      (tally_zero (λ p. held_by j (line_at ls' p).state) (length ls)
      (λ p l. ap (held_by j) (state_freed p l) ∙ gone_back (line_at ls p).state j))

  pub owned_rest : (m : ℕ) → j ≢ m → owned ls' m ≡ owned ls m
  owned_rest m ne =
      rw size
      (tally_same (λ p. held_by m (line_at ls' p).state) (λ p. held_by m (line_at ls p).state) (length ls)
      (λ p l. ap (held_by m) (state_freed p l) ∙ rest_back (line_at ls p).state j m ne))

-- lines of which some get another state join the places that they joined
pub joined_still : (n : ℕ) (ls ls' : List Line) (changed : ℕ → Bool) (s : LineState) → length ls' ≡ length ls
    → ((p : ℕ) → p < length ls → line_at ls' p ≡ cond (changed p) (with_state s (line_at ls p)) (line_at ls p)) → AllJoin n ls → AllJoin n ls'
joined_still n ls ls' changed s size line join p l =
    let inside : p < length ls = omega (arith, l, size) in
    subst (Joins n) (sym (line p inside)) (still (changed p) (line_at ls p) (join p inside))
  where
    still : (t : Bool) (x : Line) → Joins n x → Joins n (cond t (with_state s x) x)
    still true x j = j
    still false x j = j
