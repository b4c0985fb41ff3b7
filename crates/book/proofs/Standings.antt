-- The rows and shown numbers of a book, against the bookings of a ledger.
use Rattle.std.proofs.Common.{◌≡◌, ℕ, zero, suc, ◌+◌, ◌<◌, ◌≤◌, Bool, true, false, cond, eqb, List, [], ◌∷◌, ◌++◌, map, length, get_or, take, drop, sym, refl, ap, ◌∙◌, inl, inr, add_assoc, suc-add, zero-add, arith}
use Rattle.std.specs.List.{flat_map}
use Rattle.std.proofs.lemmas.List.{take_at, drop_at, append_assoc, append-nil}
use Rattle.std.proofs.lemmas.Bool.{false≢true, cases_Bool, eq-eqb, ne_eqb, eqb-true}
use Rattle.network.specs.declared.line.Line.{Line}
use Rattle.network.specs.declared.line.LineState.{LineState}
use Rattle.network.specs.declared.line.LineState.TheVariants.{Free, Held}
use Rattle.network.specs.Routes.{on_any, encoded}
use Rattle.book.specs.declared.standing.Standing.{Standing}
use Rattle.book.specs.Ledger.{Booking, holders, ended, state_by}
use Rattle.book.specs.Tables.{lines_on, stands, offset_of, length_of, without, sound, held_by}
use Rattle.book.specs.Runs.{holds}
use Rattle.book.proofs.Rows.{row, sound_low}

-- the numbers of the booking of number j, and the numbers without them
abbrev pub cut_out : ℕ → List Standing → List ℕ → List ℕ
cut_out j ss ns = take (length_of j ss) (drop (offset_of j ss) ns)

abbrev pub cut_away : ℕ → List Standing → List ℕ → List ℕ
cut_away j ss ns = take (offset_of j ss) ns ++ drop (offset_of j ss + length_of j ss) ns

take_over : (xs ys : List ℕ) (n : ℕ) → take (length xs + n) (xs ++ ys) ≡ xs ++ take n ys
take_over [] ys n = ap (λ (m : ℕ). take m ys) (zero-add n)
take_over (x ∷ xs) ys n =
    ap (λ (m : ℕ). take m (x ∷ (xs ++ ys))) (suc-add (length xs) n) ∙ ap (λ (l : List ℕ). x ∷ l) (take_over xs ys n)

drop_over : (xs ys : List ℕ) (n : ℕ) → drop (length xs + n) (xs ++ ys) ≡ drop n ys
drop_over [] ys n = ap (λ (m : ℕ). drop m ys) (zero-add n)
drop_over (x ∷ xs) ys n = ap (λ (m : ℕ). drop m (x ∷ (xs ++ ys))) (suc-add (length xs) n) ∙ drop_over xs ys n

-- the lines of the file, by which bookings are written
module _ (file : List Line) where
  -- the row of a booking, and its numbers
  abbrev pub row_for : Booking → Standing
  row_for k = record { number = k.number; held = lines_on k.routes; length = length (encoded file k.routes) }

  abbrev pub rows_for : List Booking → List Standing
  rows_for ks = map row_for ks

  abbrev pub numbers_for : List Booking → List ℕ
  numbers_for ks = flat_map (λ (k : Booking). encoded file k.routes) ks

  pub numbers_push : (ks : List Booking) (k : Booking) → numbers_for (ks ++ k ∷ []) ≡ numbers_for ks ++ encoded file k.routes
  numbers_push [] k = append-nil (encoded file k.routes)
  numbers_push (x ∷ ks) k =
      ap (λ (z : List ℕ). encoded file x.routes ++ z) (numbers_push ks k)
      ∙ sym (append_assoc (encoded file x.routes) (numbers_for ks) (encoded file k.routes))

  -- a booking's number is above `low` and at most the count
  pub above_low : (ls : List Line) (low count : ℕ) (ks : List Booking) (i : ℕ) (d : Booking) → sound ls low count (rows_for ks) ≡ true → i < length ks
      → low < (get_or ks i d).number
  above_low ls low count [] i d h l = absurd (omega arith)
  above_low ls low count (k ∷ ks) zero d h l = (row ls low count (row_for k) (rows_for ks) h).above
  above_low ls low count (k ∷ ks) (suc i) d h l =
      let r = row ls low count (row_for k) (rows_for ks) h in
      let w = above_low ls k.number count ks i d r.rest (omega arith) in omega (arith, r.above)

  pub at_most : (ls : List Line) (low count : ℕ) (ks : List Booking) (i : ℕ) (d : Booking) → sound ls low count (rows_for ks) ≡ true → i < length ks
      → (get_or ks i d).number ≤ count
  at_most ls low count [] i d h l = absurd (omega arith)
  at_most ls low count (k ∷ ks) zero d h l =
      sound_low ls k.number count (rows_for ks) (row ls low count (row_for k) (rows_for ks) h).rest
  at_most ls low count (k ∷ ks) (suc i) d h l =
      at_most ls k.number count ks i d (row ls low count (row_for k) (rows_for ks) h).rest (omega arith)

  -- and above those before it
  pub numbers_rise : (ls : List Line) (low count : ℕ) (ks : List Booking) (i j : ℕ) (d : Booking) → sound ls low count (rows_for ks) ≡ true
      → i < length ks → j < i → (get_or ks j d).number < (get_or ks i d).number
  numbers_rise ls low count [] i j d h l m = absurd (omega arith)
  numbers_rise ls low count (k ∷ ks) zero j d h l m = absurd (omega arith)
  numbers_rise ls low count (k ∷ ks) (suc i) zero d h l m =
      above_low ls k.number count ks i d (row ls low count (row_for k) (rows_for ks) h).rest (omega arith)
  numbers_rise ls low count (k ∷ ks) (suc i) (suc j) d h l m =
      numbers_rise ls k.number count ks i j d (row ls low count (row_for k) (rows_for ks) h).rest (omega arith) (omega arith)

  -- each booking stands in the rows, and its numbers are cut out as they were noted
  pub each_stands : (ls : List Line) (low count : ℕ) (ks : List Booking) (i : ℕ) (d : Booking) → sound ls low count (rows_for ks) ≡ true → i < length ks
      → (stands (get_or ks i d).number (rows_for ks) ≡ true)
      × (cut_out (get_or ks i d).number (rows_for ks) (numbers_for ks) ≡ encoded file (get_or ks i d).routes)
  unfolding stands length_of offset_of
  each_stands ls low count [] i d h l = absurd (omega arith)
  each_stands ls low count (k ∷ ks) zero d h l =
      let e = eq-eqb k.number k.number refl in
      let ns = encoded file k.routes in (rw e refl, rw e (take_at ns (numbers_for ks) (length ns) refl))
  each_stands ls low count (k ∷ ks) (suc i) d h l =
      let r = row ls low count (row_for k) (rows_for ks) h in
      let w = above_low ls k.number count ks i d r.rest (omega arith) in
      let e = ne_eqb k.number (get_or ks i d).number (omega arith) in
      let t = each_stands ls k.number count ks i d r.rest (omega arith) in (
        rw e t.0,
        rw e
            (ap (take (length_of (get_or ks i d).number (rows_for ks)))
            (drop_over (encoded file k.routes) (numbers_for ks) (offset_of (get_or ks i d).number (rows_for ks)))
            ∙ t.1),
      )

  -- where nothing of number j stands, ending it changes nothing
  ended_none : (ls : List Line) (low count j : ℕ) (ks : List Booking) → sound ls low count (rows_for ks) ≡ true → j ≤ low → ended j ks ≡ ks
  unfolding ended
  ended_none ls low count j [] h l = refl
  ended_none ls low count j (k ∷ ks) h l =
      let r = row ls low count (row_for k) (rows_for ks) h in
      rw (ne_eqb k.number j (omega (arith, r.above)))
      (ap (λ (z : List Booking). k ∷ z) (ended_none ls k.number count j ks r.rest (omega (arith, r.above))))

  pub ended_rows : (ls : List Line) (low count j : ℕ) (ks : List Booking) → sound ls low count (rows_for ks) ≡ true
      → without j (rows_for ks) ≡ rows_for (ended j ks)
  unfolding without ended
  ended_rows ls low count j [] h = refl
  ended_rows ls low count j (k ∷ ks) h =
      let r = row ls low count (row_for k) (rows_for ks) h in
      elim (cases_Bool (eqb k.number j)) [
        | inl e ↦
            let q = eqb-true k.number j e in rw e (ap rows_for (sym (ended_none ls k.number count j ks r.rest (omega arith))))
        | inr e ↦ rw e (ap (λ (z : List Standing). row_for k ∷ z) (ended_rows ls k.number count j ks r.rest))
      ]

  pub ended_numbers : (ls : List Line) (low count j : ℕ) (ks : List Booking) → sound ls low count (rows_for ks) ≡ true → stands j (rows_for ks) ≡ true
      → cut_away j (rows_for ks) (numbers_for ks) ≡ numbers_for (ended j ks)
  unfolding stands offset_of length_of ended
  ended_numbers ls low count j [] h s = absurd (false≢true s)
  ended_numbers ls low count j (k ∷ ks) h s =
      let r = row ls low count (row_for k) (rows_for ks) h in
      let ns = encoded file k.routes in
      elim (cases_Bool (eqb k.number j)) [
        | inl e ↦
            let q = eqb-true k.number j e in
            rw e
            (ap (λ (n : ℕ). drop n (ns ++ numbers_for ks)) (zero-add (length ns)) ∙ drop_at ns (numbers_for ks) (length ns) refl
            ∙ ap numbers_for (sym (ended_none ls k.number count j ks r.rest (omega arith))))
        | inr e ↦
            let t = ended_numbers ls k.number count j ks r.rest (rw e at s) in
            rw e (away ns (numbers_for ks) (offset_of j (rows_for ks)) (length_of j (rows_for ks)) ∙ ap (λ (z : List ℕ). ns ++ z) t)
      ]
    where
      away : (xs ys : List ℕ) (o m : ℕ) → take (length xs + o) (xs ++ ys) ++ drop ((length xs + o) + m) (xs ++ ys) ≡ xs ++ (take o ys ++ drop (o + m) ys)
      away xs ys o m =
          ap (λ (z : List ℕ). z ++ drop ((length xs + o) + m) (xs ++ ys)) (take_over xs ys o)
          ∙ ap (λ (z : List ℕ). (xs ++ take o ys) ++ z)
          (ap (λ (n : ℕ). drop n (xs ++ ys)) (add_assoc (length xs) o m) ∙ drop_over xs ys (o + m))
          ∙ append_assoc xs (take o ys) (drop (o + m) ys)

-- what holds of each booking holds of those that stand on, and of one more
pub each_ended : (P : Booking → Type 0) (j : ℕ) (ks : List Booking) (d : Booking) → ((i : ℕ) → i < length ks → P (get_or ks i d))
    → (i : ℕ) → i < length (ended j ks) → P (get_or (ended j ks) i d)
unfolding ended
each_ended P j [] d h i l = absurd (omega arith)
each_ended P j (k ∷ ks) d h i l = by (eqb k.number j) (ended j ks) (each_ended P j ks d (λ i l. h (suc i) (omega arith))) i l
  where
    by : (t : Bool) (rest : List Booking) → ((i : ℕ) → i < length rest → P (get_or rest i d))
        → (i : ℕ) → i < length (cond t [] (k ∷ []) ++ rest) → P (get_or (cond t [] (k ∷ []) ++ rest) i d)
    by true rest f i l = f i l
    by false rest f zero l = h 0 (omega arith)
    by false rest f (suc i) l = f i (omega arith)

pub each_push : (P : Booking → Type 0) (ks : List Booking) (k d : Booking) → ((i : ℕ) → i < length ks → P (get_or ks i d)) → P k
    → (i : ℕ) → i < length (ks ++ k ∷ []) → P (get_or (ks ++ k ∷ []) i d)
each_push P [] k d h q zero l = q
each_push P [] k d h q (suc i) l = absurd (omega arith)
each_push P (x ∷ ks) k d h q zero l = h 0 (omega arith)
each_push P (x ∷ ks) k d h q (suc i) l = each_push P ks k d (λ i l. h (suc i) (omega arith)) q i (omega arith)

-- the numbers but j
unfoldable pub minus : ℕ → List ℕ → List ℕ
minus j [] = []
minus j (x ∷ xs) = cond (eqb x j) [] (x ∷ []) ++ minus j xs

minus_append : (j : ℕ) (xs ys : List ℕ) → minus j (xs ++ ys) ≡ minus j xs ++ minus j ys
unfolding minus
minus_append j [] ys = refl
minus_append j (x ∷ xs) ys =
    ap (λ (z : List ℕ). cond (eqb x j) [] (x ∷ []) ++ z) (minus_append j xs ys)
    ∙ sym (append_assoc (cond (eqb x j) [] (x ∷ [])) (minus j xs) (minus j ys))

minus_gone : (t : Bool) (n j : ℕ) → eqb n j ≡ true → minus j (cond t (n ∷ []) []) ≡ []
unfolding minus
minus_gone true n j e = rw e refl
minus_gone false n j e = refl

minus_kept : (t : Bool) (n j : ℕ) → eqb n j ≡ false → minus j (cond t (n ∷ []) []) ≡ cond t (n ∷ []) []
unfolding minus
minus_kept true n j e = rw e refl
minus_kept false n j e = refl

-- the holders of a line, with a booking ended and with one more
pub holders_ended : (p j : ℕ) (ks : List Booking) → holders p (ended j ks) ≡ minus j (holders p ks)
unfolding holders ended minus
holders_ended p j [] = refl
holders_ended p j (k ∷ ks) =
    let m = minus_append j (cond (on_any k.routes p) (k.number ∷ []) []) (holders p ks) in
    elim (cases_Bool (eqb k.number j)) [
      | inl e ↦
          rw e
          (holders_ended p j ks
          ∙ sym (m ∙ ap (λ (z : List ℕ). z ++ minus j (holders p ks)) (minus_gone (on_any k.routes p) k.number j e)))
      | inr e ↦
          rw e
          (ap (λ (z : List ℕ). cond (on_any k.routes p) (k.number ∷ []) [] ++ z) (holders_ended p j ks)
          ∙ sym (m ∙ ap (λ (z : List ℕ). z ++ minus j (holders p ks)) (minus_kept (on_any k.routes p) k.number j e)))
    ]

pub minus_holds : (j : ℕ) (s : LineState) → minus j (holds s) ≡ holds (cond (held_by j s) Free s)
unfolding minus
minus_holds j Free = refl
minus_holds j (Held m) = by (eqb m j)
  where
    by : (t : Bool) → cond t [] (m ∷ []) ++ [] ≡ holds (cond t Free (Held m))
    by true = refl
    by false = refl

pub holders_push : (p : ℕ) (ks : List Booking) (k : Booking) → holders p (ks ++ k ∷ []) ≡ holders p ks ++ cond (on_any k.routes p) (k.number ∷ []) []
unfolding holders
holders_push p [] k = append-nil (cond (on_any k.routes p) (k.number ∷ []) [])
holders_push p (x ∷ ks) k =
    ap (λ (z : List ℕ). cond (on_any x.routes p) (x.number ∷ []) [] ++ z) (holders_push p ks k)
    ∙ sym (append_assoc (cond (on_any x.routes p) (x.number ∷ []) []) (holders p ks) (cond (on_any k.routes p) (k.number ∷ []) []))

-- the state that a line's holders make is the state that names them
pub state_holds : (s : LineState) → state_by (holds s) ≡ s
state_holds Free = refl
state_holds (Held m) = refl
