-- What showings write: a standing booking's stretch of the shown numbers, and nothing else.
use Rattle.std.proofs.Common.{◌≡◌, ℕ, ◌+◌, ◌≤◌, Bool, true, false, not, ◌||◌, eqb, List, ◌++◌, length, take, drop, Some, None, Ok, Err, Option, Result, sym, refl, ap, ◌∙◌, subst, arith, length-append, length-drop}
use Rattle.std.proofs.lemmas.List.{take_at, drop_at, take_all, length-take-le}
use Rattle.std.proofs.lemmas.Bool.{eq-eqb, le-ltb, cond-false, or_parts, not-false}
use Rattle.network.specs.Routes.{encoded}
use Rattle.book.specs.declared.standing.Standing.{Standing}
use Rattle.book.specs.declared.fault.Fault.{Fault}
use Rattle.book.specs.declared.ticket.Ticket.{Ticket}
use Rattle.book.specs.declared.held.Book.{Book}
use Rattle.book.specs.Tables.{lines_on, stands, offset_of, length_of}
use Rattle.book.specs.Grounds.{Ground, no_booking, ground_of, check}
use Rattle.book.specs.Calls.{lines_of, rows_of, shown_of, Taken, Showed, showing_check, ticket_check, stretch}
use Rattle.book.specs.Runs.{Shows}
use Rattle.book.proofs.Rows.{not_yet, stands_within, stands_last, offset_last, length_last}

pub none_some : {X : Type 0} (o : Option X) (x : X) → o ≡ None → o ≡ Some x → ⊥
none_some o x p q = let z : ◌≡◌ {A = ℕ} 0 1 = cc in omega arith

-- checks that give no ground have passed each, and the other way round
pub check_none : (t : Bool) (g : Ground) (rest : Option Ground) → check t g rest ≡ None → (t ≡ false) × (rest ≡ None)
check_none true g rest e = absurd (none_some (Some g) g e refl)
check_none false g rest e = (refl, e)

pub check_past : (t : Bool) (g : Ground) (rest : Option Ground) → t ≡ false → check t g rest ≡ rest
check_past t g rest e = cond-false t (Some g) rest e

module _ {E : Type 0} where
  -- a ticket that passed its check has a standing booking
  pub passed : (b : Book E) (t : Ticket) (rest : Option Ground) → ticket_check b t rest ≡ None → stands t.number (rows_of b) ≡ true
  passed b t rest e =
      let p = check_none (not (eqb t.mark b.mark) || not (stands t.number (rows_of b))) no_booking rest e in
      not-false (stands t.number (rows_of b)) (or_parts (not (eqb t.mark b.mark)) (not (stands t.number (rows_of b))) p.0).1

  stretch_length : (b : Book E) (j : ℕ) → stands j (rows_of b) ≡ true → length (stretch b j) ≡ length_of j (rows_of b)
  stretch_length b j h =
      let w = stands_within j (rows_of b) h in
      let d = length-drop (offset_of j (rows_of b)) (shown_of b) in
      length-take-le (length_of j (rows_of b)) (drop (offset_of j (rows_of b)) (shown_of b)) (omega (arith, b.totals, b.shown.ok.0))

  check_passes : (b : Book E) (t : Ticket) (room : ℕ) → t.mark ≡ b.mark → stands t.number (rows_of b) ≡ true → length_of t.number (rows_of b) ≤ room
      → showing_check b t room ≡ None
  check_passes b t room m h l = rw (eq-eqb t.mark b.mark m, h, le-ltb room (length_of t.number (rows_of b)) l) refl

  writes : (b : Book E) (t : Ticket) (list list' : List ℕ) (r : Result ℕ Fault) → showing_check b t (length list) ≡ None
      → length (stretch b t.number) ≡ length_of t.number (rows_of b) → Showed b t list list' r
      → (r ≡ Ok (length (stretch b t.number))) × (list' ≡ stretch b t.number ++ drop (length (stretch b t.number)) list)
  writes b t list list' (Ok n) c e s =
      let q = s.1 ∙ sym e in (ap Ok q, s.2 ∙ ap (λ (x : ℕ). stretch b t.number ++ drop x list) q)
  writes b t list list' (Err f) c e s = absurd (none_some (showing_check b t (length list)) (ground_of f) c s.0)

  -- a standing stretch is what every showing with room writes
  pub shows_stretch : (b : Book E) (j : ℕ) (ns : List ℕ) → stands j (rows_of b) ≡ true → stretch b j ≡ ns → Shows b b.mark j ns
  shows_stretch b j ns h e t list list' r m n room s =
      let hn : stands t.number (rows_of b) ≡ true = ap (λ (x : ℕ). stands x (rows_of b)) n ∙ h in
      let en : stretch b t.number ≡ ns = ap (stretch b) n ∙ e in
      let k = stretch_length b t.number hn in
      let w = writes b t list list' r (check_passes b t (length list) m hn (omega (arith, k, ap length en))) k s in
      subst (λ (x : List ℕ). (r ≡ Ok (length x)) × (list' ≡ x ++ drop (length x) list)) en w

  -- and nothing else is
  pub shows_only : (b : Book E) (j : ℕ) (ns : List ℕ) → stands j (rows_of b) ≡ true → Shows b b.mark j ns → ns ≡ stretch b j
  shows_only b j ns h s =
      let st = stretch b j in
      let k = stretch_length b j h in
      let la = length-append st ns in
      let t : Ticket = record { mark = b.mark; number = j } in
      let c = check_passes b t (length (st ++ ns)) refl h (omega (arith, la, k)) in
      let w = s t (st ++ ns) (st ++ drop (length_of j (rows_of b)) (st ++ ns)) (Ok (length_of j (rows_of b))) refl refl (omega (arith, la)) (c, refl, refl) in
      let q = same_ok (length_of j (rows_of b)) (length ns) w.0 in
      sym (take_at ns (drop (length ns) (st ++ ns)) (length ns) refl) ∙ ap (take (length ns)) (sym w.1)
      ∙ take_at st (drop (length_of j (rows_of b)) (st ++ ns)) (length ns) (k ∙ q)
    where
      same_ok : (a b : ℕ) → ◌≡◌ {A = Result ℕ Fault} (Ok a) (Ok b) → a ≡ b
      same_ok a b e = cc

  -- the new booking stands, and its stretch is what was written for it
  pub taken_cut : (b : Book E) (x y k : ℕ) (after : Book E) (t : Ticket) (w : Taken b x y k after t)
      → (stands (b.count + 1) (rows_of after) ≡ true) × (stretch after (b.count + 1) ≡ encoded (lines_of b) w.routes)
  taken_cut b x y k after t w =
      let n = b.count + 1 in
      let ns = encoded (lines_of b) w.routes in
      let r : Standing = record { number = n; held = lines_on w.routes; length = length ns } in
      let new = not_yet (lines_of b) 0 b.count n (rows_of b) b.rises (omega arith) in
      let of : offset_of n (rows_of after) ≡ length (shown_of b) =
      ap (offset_of n) w.rows ∙ offset_last r (rows_of b) new ∙ b.totals ∙ b.shown.ok.0 in
      let le : length_of n (rows_of after) ≡ length ns = ap (length_of n) w.rows ∙ length_last r (rows_of b) new in (
        ap (stands n) w.rows ∙ stands_last r (rows_of b),
        rw (of, le, w.shown)
            (ap (take (length ns)) (drop_at (shown_of b) ns (length (shown_of b)) refl) ∙ take_all (length ns) ns (omega arith)),
      )

  -- there is always a list that the showings of a new ticket write, so that the step of an accepted booking can be made
  pub taken_shows : (b : Book E) (x y k : ℕ) (after : Book E) (t : Ticket) (w : Taken b x y k after t)
      → Shows after t.mark t.number (encoded (lines_of b) w.routes)
  taken_shows b x y k after t w =
      let ns = encoded (lines_of b) w.routes in
      let c = taken_cut b x y k after t w in
      let s = shows_stretch after (b.count + 1) ns c.0 c.1 in
      subst (λ (m : ℕ). Shows after m t.number ns) (w.mark ∙ sym w.ticket_mark)
      (subst (λ (j : ℕ). Shows after after.mark j ns) (sym w.ticket_number) s)
