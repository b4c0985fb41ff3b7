-- Why a desk has room for every ticket, and why no release of its own is denied.
use Rattle.std.proofs.Common.{◌≡◌, ℕ, ◌+◌, ◌<◌, ◌≤◌, true, false, ◌||◌, eqb, ◌≢◌, List, [], ◌∷◌, ◌++◌, map, length, get_or, Some, None, Ok, Err, IsOk, vec_len, Result, sym, refl, ap, ◌∙◌, inl, inr, arith}
use Rattle.std.proofs.lemmas.List.{length-map, length_push, get_or-map}
use Rattle.std.proofs.lemmas.Bool.{cases_Bool, cases_eq, both_ways, eq-eqb, ne_eqb, eqb-true, false≢true}
use Rattle.std.specs.List.{remove}
use Rattle.network.specs.declared.line.Line.{Line}
use Rattle.network.specs.Lists.{among, distinct}
use Rattle.network.proofs.Lists.{among_nil, among_skip, among_by_test, distinct_append, distinct_cons, distinct_none, distinct_fits, every_none, every_cons, every_parts, every_among, every_from_among, meet_from_among, every_get_or}
use Rattle.book.specs.declared.standing.Standing.{Standing}
use Rattle.book.specs.declared.ticket.Ticket.{Ticket}
use Rattle.book.specs.declared.ticket.Denied.{Denied}
use Rattle.book.specs.declared.held.Book.{Book}
use Rattle.book.specs.Grounds.{Ground}
use Rattle.book.specs.declared.fault.Fault.{Fault}
use Rattle.book.specs.Calls.{rows_of, lines_of, size_of, opening_check, Opened, Taken, Freed, Released, ticket_check}
use Rattle.book.specs.Tables.{stands, without, sound, total_held, free_count}
use Rattle.book.proofs.Rows.{sound_length, not_standing, not_yet, stands_last}
use Rattle.desk.specs.declared.pass.Pass.{Pass}
use Rattle.desk.specs.declared.desk.Desk.{Desk}
use Rattle.desk.specs.Desks.{passes_of}
use Rattle.desk.specs.Passes.{number_of, numbers_of, carry, all_stand}
use Rattle.desk.proofs.Removing.{map_removed, every_removed, among_removed, distinct_removed, removed_gone}

stands_among : (j : ℕ) (rows : List Standing) → stands j rows ≡ among (map (λ s. s.number) rows) j
unfolding stands among
stands_among j [] = refl
stands_among j (s ∷ rows) = ap (λ b. eqb s.number j || b) (stands_among j rows)

-- different numbers that stand are at most as many as the rows
pub stand_fit : (rows : List Standing) (js : List ℕ) → distinct js ≡ true → all_stand rows js ≡ true → length js ≤ length rows
stand_fit rows js d h =
    let ns : List ℕ = map (λ s. s.number) rows in
    let f = distinct_fits js ns d (λ j a. sym (stands_among j rows) ∙ every_among (λ k. stands k rows) js j h a) in
    omega (arith, f, length-map rows (λ s. s.number))

-- what stands goes on standing beside one row more
pub stands_more : (j : ℕ) (r : Standing) (rows : List Standing) → stands j rows ≡ true → stands j (rows ++ r ∷ []) ≡ true
unfolding stands
stands_more j r [] h = absurd (false≢true h)
stands_more j r (s ∷ rows) h =
    elim (cases_Bool (eqb s.number j)) [
      | inl e ↦ rw e refl
      | inr e ↦ rw e (stands_more j r rows (rw e at h))
    ]

-- .. and where the row of another number is taken out
pub stands_without : (j m : ℕ) (rows : List Standing) → j ≢ m → stands m rows ≡ true → stands m (without j rows) ≡ true
unfolding stands without
stands_without j m [] ne h = h
stands_without j m (s ∷ rows) ne h =
    elim (cases_eq s.number j) [
      | inl e ↦ rw (eq-eqb s.number j e) (rw (ne_eqb s.number m (λ q. ne (sym e ∙ q))) at h)
      | inr n ↦ rw (ne_eqb s.number j n) (elim (cases_Bool (eqb s.number m)) [
        | inl e ↦ rw e refl
        | inr e ↦ rw e (stands_without j m rows ne (rw e at h))
      ])
    ]

-- one number more that stands in one row more
pub all_stand_more : (r : Standing) (rows : List Standing) (js : List ℕ) → all_stand rows js ≡ true → all_stand (rows ++ r ∷ []) (js ++ r.number ∷ []) ≡ true
all_stand_more r rows [] h =
    every_cons (λ j. stands j (rows ++ r ∷ [])) r.number [] (stands_last r rows) (every_none (λ j. stands j (rows ++ r ∷ [])))
all_stand_more r rows (j ∷ js) h =
    let p = every_parts (λ k. stands k rows) j js h in
    every_cons (λ k. stands k (rows ++ r ∷ [])) j (js ++ r.number ∷ []) (stands_more j r rows p.0) (all_stand_more r rows js p.1)

-- a number that does not stand is different from those that do
pub distinct_more : (rows : List Standing) (js : List ℕ) (n : ℕ) → distinct js ≡ true → all_stand rows js ≡ true → stands n rows ≡ false → distinct (js ++ n ∷ []) ≡ true
distinct_more rows js n d h s =
    let fresh = among_by_test (λ j. stands j rows) js n h s in
    distinct_append js (n ∷ []) d (distinct_cons n [] (among_nil n) distinct_none)
    (meet_from_among js (n ∷ []) (λ x a. among_skip n x [] (λ e. both_ways (among js n) fresh (rw e a)) ∙ among_nil x))

-- what stands without the number that is released
pub all_stand_removed : (rows : List Standing) (js : List ℕ) (i : ℕ) → distinct js ≡ true → i < length js → all_stand rows js ≡ true → all_stand (without (get_or js i 0) rows) (remove js i) ≡ true
all_stand_removed rows js i d l h =
    every_from_among (λ m. stands m (without (get_or js i 0) rows)) (remove js i) (λ m a.
    stands_without (get_or js i 0) m rows
    (λ e. both_ways (among (remove js i) (get_or js i 0)) (removed_gone js i 0 d l) (rw e a))
    (every_among (λ k. stands k rows) js m h (among_removed js i m a)))

-- before any booking nothing stands
pub none_stand : (ls : List Line) (rows : List Standing) (js : List ℕ) → sound ls 0 0 rows ≡ true → all_stand rows js ≡ true → js ≡ []
none_stand ls rows [] s h = refl
none_stand ls rows (j ∷ js) s h =
    let p = every_parts (λ k. stands k rows) j js h in
    absurd (both_ways (stands j rows) (elim (cases_eq j 0) [
      | inl e ↦ not_standing ls 0 0 j rows s (omega (arith, e))
      | inr n ↦ not_yet ls 0 0 j rows s (omega (arith, n))
    ]) p.0)

pub no_numbers : (ps : List Pass) → numbers_of ps ≡ [] → ps ≡ []
no_numbers [] e = refl
no_numbers (p ∷ ps) e = absurd (let z : ◌≡◌ {A = ℕ} 0 1 = cc in omega arith)

pub rows_few : (ls : List Line) (count free n : ℕ) (rows : List Standing) → sound ls 0 count rows ≡ true → total_held rows + free ≡ n → n ≤ 512 → length rows ≤ 512
rows_few ls count free n rows s e l = omega (arith, sound_length ls 0 count rows s)

-- what a desk knows of its passes
pub record Kept {E : Type 0} (b : Book E) (ps : List Pass) : Type 0 where
  pub marked : carry b.mark ps ≡ true
  pub standing : all_stand (rows_of b) (numbers_of ps) ≡ true
  pub apart : distinct (numbers_of ps) ≡ true

numbers_push : (p : Pass) (ps : List Pass) → numbers_of (ps ++ p ∷ []) ≡ numbers_of ps ++ number_of p ∷ []
numbers_push p [] = refl
numbers_push p (q ∷ ps) = ap (λ ns. number_of q ∷ ns) (numbers_push p ps)

carry_push : (m : ℕ) (p : Pass) (ps : List Pass) → p.ticket.mark ≡ m → carry m ps ≡ true → carry m (ps ++ p ∷ []) ≡ true
carry_push m p [] e h = every_cons (λ q. eqb q.ticket.mark m) p [] (eq-eqb p.ticket.mark m e) h
carry_push m p (q ∷ ps) e h =
    let r = every_parts (λ q. eqb q.ticket.mark m) q ps h in
    every_cons (λ q. eqb q.ticket.mark m) q (ps ++ p ∷ []) r.0 (carry_push m p ps e r.1)

module _ {E : Type 0} where
  -- there is room for one pass more: each booking that stands holds a line
  pub room_left : (b after : Book E) (x y k : ℕ) (t : Ticket) (ps : List Pass) → Kept b ps → Taken b x y k after t → length ps < 512
  room_left b after x y k t ps h n =
      let few = rows_few (lines_of after) after.count (free_count (lines_of after)) _ (rows_of after) after.rises after.parted after.few_lines in
      let more = ap length n.rows ∙ length_push (rows_of b) _ in
      omega (arith, few, more, stand_fit (rows_of b) (numbers_of ps) h.apart h.standing, length-map ps number_of)

  -- an accepted booking's ticket can be kept
  pub kept_push : (b after : Book E) (x y k : ℕ) (p : Pass) (ps ps' : List Pass) → Kept b ps → Taken b x y k after p.ticket → ps' ≡ ps ++ p ∷ [] → Kept after ps'
  kept_push b after x y k p ps ps' h n e =
      let fresh = not_yet (lines_of b) 0 b.count (number_of p) (rows_of b) b.rises (omega (arith, n.ticket_number)) in
      rw e
      (record {
        marked = rw n.mark (carry_push b.mark p ps n.ticket_mark h.marked);
        standing =
            rw (n.rows, numbers_push p ps, n.ticket_number)
            (all_stand_more (record { number = b.count + 1; held = _; length = _ }) (rows_of b) (numbers_of ps) h.standing);
        apart = rw (numbers_push p ps) (distinct_more (rows_of b) (numbers_of ps) (number_of p) h.apart h.standing fresh);
      })

  -- the ticket of a pass has the book's mark and a number that stands
  pub record Good (b : Book E) (ps : List Pass) (i : ℕ) (t : Ticket) : Type 0 where
    pub mark : t.mark ≡ b.mark
    pub stands_there : stands t.number (rows_of b) ≡ true
    pub number : get_or (numbers_of ps) i 0 ≡ t.number

  pub good : (b : Book E) (ps : List Pass) (i : ℕ) (p : Pass) → Kept b ps → i < length ps → p ≡ get_or ps i p → Good b ps i p.ticket
  good b ps i p h l e =
      let at : get_or (numbers_of ps) i 0 ≡ p.ticket.number = get_or-map number_of ps i p 0 l ∙ ap number_of (sym e) in
      let m = every_get_or (λ q. eqb q.ticket.mark b.mark) ps i p h.marked l in
      let s = every_get_or (λ j. stands j (rows_of b)) (numbers_of ps) i 0 h.standing (omega (arith, length-map ps number_of)) in
      record {
        mark = ap (λ q. q.ticket.mark) e ∙ eqb-true _ _ m;
        stands_there = ap (λ j. stands j (rows_of b)) (sym at) ∙ s;
        number = at;
      }

  -- so its release is not denied
  not_denied : (b : Book E) (t : Ticket) (g : Ground) → t.mark ≡ b.mark → stands t.number (rows_of b) ≡ true → ticket_check b t None ≡ Some g → ⊥
  not_denied b t g m s h =
      let n = rw (eq-eqb t.mark b.mark m, s) at h in let z : ◌≡◌ {A = ℕ} 0 1 = cc in omega arith

  pub accepted : (b : Book E) (t : Ticket) (after : Book E) (r : Result (Unit {0}) Denied) → t.mark ≡ b.mark → stands t.number (rows_of b) ≡ true → Released b t after r → Released b t after (Ok tt)
  accepted b t after (Ok u) m s h = h
  accepted b t after (Err d) m s h = absurd (not_denied b t _ m s h.0)

  pub is_accepted : (b : Book E) (t : Ticket) (after : Book E) (r : Result (Unit {0}) Denied) → t.mark ≡ b.mark → stands t.number (rows_of b) ≡ true → Released b t after r → IsOk r
  is_accepted b t after (Ok u) m s h = refl
  is_accepted b t after (Err d) m s h = absurd (not_denied b t _ m s h.0)

  -- the other passes stay
  pub kept_removed : (b after : Book E) (t : Ticket) (ps ps' : List Pass) (i : ℕ) → Kept b ps → i < length ps → Good b ps i t → Freed b t.number after → ps' ≡ remove ps i → Kept after ps'
  kept_removed b after t ps ps' i h l g f e =
      let l' : i < length (numbers_of ps) = omega (arith, length-map ps number_of) in
      rw e
      (record {
        marked = rw f.mark (every_removed (λ q. eqb q.ticket.mark b.mark) ps i h.marked);
        standing =
            rw (f.rows, map_removed number_of ps i, ← g.number)
            (all_stand_removed (rows_of b) (numbers_of ps) i h.apart l' h.standing);
        apart = rw (map_removed number_of ps i) (distinct_removed (numbers_of ps) i h.apart);
      })

  -- a desk keeps its passes so
  pub kept_of : (d : Desk E) → Kept d.book (passes_of d)
  kept_of d = record { marked = d.marked; standing = d.standing; apart = d.apart }

  pub inside : (d : Desk E) (i : ℕ) → i < vec_len d.passes → i < length (passes_of d)
  inside d i l = omega (arith, d.passes.ok.0)

  pub good_of : (d : Desk E) (i : ℕ) (p : Pass) → i < vec_len d.passes → p ≡ get_or (passes_of d) i p → Good d.book (passes_of d) i p.ticket
  good_of d i p l e = good d.book (passes_of d) i p (kept_of d) (inside d i l) e

  -- an accepted opening is on a book that holds no network, so no ticket is out
  opened_none : (d : Desk E) (bytes : List ℕ) → opening_check d.book bytes ≡ None → passes_of d ≡ []
  opened_none d bytes h =
      let sites : vec_len d.book.sites ≡ 0 =
      elim (cases_Bool (eqb (size_of d.book) 0)) [
        | inl e ↦ d.book.sites.ok.0 ∙ eqb-true _ 0 e
        | inr e ↦ absurd (let n = rw e at h in let z : ◌≡◌ {A = ℕ} 0 1 = cc in let w : ⊥ = omega arith in w)
      ] in
      let none = (d.book.unopened sites).1 in
      let sure = ap (λ n. sound (lines_of d.book) 0 n (rows_of d.book)) (sym none) ∙ d.book.rises in
      no_numbers (passes_of d) (none_stand (lines_of d.book) (rows_of d.book) (numbers_of (passes_of d)) sure d.standing)

  pub kept_opened : (d : Desk E) (bytes : List ℕ) (m : ℕ) (after : Book E) (r : Result (Unit {0}) Fault) → Opened d.book bytes m after r → Kept after (passes_of d)
  kept_opened d bytes m after (Ok u) h =
      rw (opened_none d bytes h.0)
      (record { marked = every_none _; standing = every_none _; apart = distinct_none })
  kept_opened d bytes m after (Err f) h = rw h.1 (kept_of d)
