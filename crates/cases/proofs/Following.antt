-- From one worked call to the next: what the law of the ledger so far says of it, and the ledger after it.
use Rattle.std.proofs.Common.{◌≡◌, ℕ, ◌+◌, ◌<◌, ◌≤◌, Bool, true, false, not, ◌||◌, eqb, ◌≢◌, ◌↔◌, List, [], ◌∷◌, map, length, get_or, is_ok, Some, None, Ok, Err, Option, Result, sym, refl, ap, ◌∙◌, subst, ap₂, arith}
use Rattle.std.proofs.lemmas.Bool.{eq-eqb, or_from, not_from_true}
use Rattle.network.specs.declared.line.LineState.TheVariants.{Free}
use Rattle.network.specs.Sides.{differ}
use Rattle.network.specs.Lists.{among}
use Rattle.network.specs.Routes.{encoded}
use Rattle.network.specs.Answers.{PartedBy}
use Rattle.network.proofs.Levels.{level_le}
use Rattle.netfile.specs.Search.{lowest_where}
use Rattle.netfile.specs.Layout.{numbers_from}
use Rattle.netfile.specs.Meaning.{sites_in, lines_in, first_fault}
use Rattle.book.specs.declared.fault.Fault.{Fault}
use Rattle.book.specs.declared.fault.Fault.TheVariants.{TooFewRoutes}
use Rattle.book.specs.declared.standing.Standing.{Standing as Row}
use Rattle.book.specs.declared.ticket.Ticket.{Ticket}
use Rattle.book.specs.declared.held.Book.{Book}
use Rattle.book.specs.Ledger.{Ledger, struck, holders, ended}
use Rattle.book.specs.Tables.{stands}
use Rattle.book.specs.Grounds.{too_few, already_open, no_booking, ground_of, file_check}
use Rattle.book.specs.Calls.{sites_of, lines_of, rows_of, size_of, opening_check, ticket_check, Opened, Booked, Released}
use Rattle.book.specs.Runs.{Sharing, Law, Lawful, Step, begun, onward, books, releases, BookedByLaw, ListedByLaw}
use Rattle.book.proofs.Shown.{check_past, taken_shows}
use Rattle.cases.specs.Table.{worked}
use Rattle.cases.specs.File.{worked_file}
use Rattle.cases.specs.Ledgers.{at_first, with_three, given_back, Going, Holding, Returned}
use Rattle.cases.specs.Outcomes.{FourDenied, OnlyPair}
use Rattle.cases.proofs.Worked.{worked_cases}
use Rattle.cases.proofs.Meant.{no_fault, four_sites, At, places}
use Rattle.cases.proofs.Reckoned.{asked, asked_10_20, share_first, cut_back}
use Rattle.cases.proofs.ThreeHeld.{share_held, levels_held}

pub never : {X : Type 0} {x : X} (o : Option X) → o ≡ None → o ≡ Some x → ⊥
never o p q = let z : ◌≡◌ {A = ℕ} 0 1 = cc in omega arith

-- a number stands in the table where it is among the numbers there
stands_among : (j : ℕ) (rows : List Row) → stands j rows ≡ among (map (λ s. s.number) rows) j
unfolding stands among
stands_among j [] = refl
stands_among j (s ∷ ss) = ap (λ (t : Bool). eqb s.number j || t) (stands_among j ss)

module _ {E : Type 0} where
  law_of : {b : Book E} {l : Ledger} → Going b l → Law b l
  law_of {b} {l} g = g.lawful b l g.reached.run

  -- one call more
  further : {b : Book E} {l : Ledger} {after : Book E} {l' : Ledger} → Going b l → Step b l after l' → Going after l'
  further g s =
      let w = g.reached in
      record {
        reached = record { before = w.before; first = w.first; bytes = w.bytes; mark = w.mark; opening = w.opening; run = onward w.run s };
        lawful = g.lawful;
      }

  pub opening_passes : (b : Book E) → sites_of b ≡ [] → opening_check b worked_file ≡ None
  opening_passes b e =
      check_past (not (eqb (size_of b) 0)) already_open (file_check (first_fault worked_file))
      (not_from_true (eqb (size_of b) 0) (eq-eqb (size_of b) 0 (ap length e)))
      ∙ ap file_check no_fault

  pub opened : (b after : Book E) → Opened b worked_file 7 after (Ok tt) → Lawful after at_first → Going after at_first
  opened b after o h =
      record { reached = record { before = b; first = after; bytes = worked_file; mark = 7; opening = o; run = begun }; lawful = h }

  pub three_accepted : (b : Book E) (r : Result Ticket Fault) → Going b at_first → BookedByLaw b 10 20 3 r → is_ok r ≡ true
  three_accepted b r g h = (h at_first g.reached 0 1 (asked_10_20 at_first 3 refl (omega arith) (omega arith) (omega arith))).0.1 share_first

  pub three_held : (b after : Book E) (t : Ticket) → Going b at_first → Booked b 10 20 3 after (Ok t) → Holding after t
  three_held b after t g o =
      let w = o.1 in
      let ns = encoded (lines_of b) w.routes in
      let kept = (law_of g).conserved in
      record {
        shown = ns;
        going = further g (books b at_first 10 20 3 after t o ns (taken_shows b 10 20 3 after t w));
        mark = w.ticket_mark ∙ kept.mark;
        number = w.ticket_number ∙ ap (λ (z : ℕ). z + 1) kept.count;
      }

  -- the booking stands, by the ledger, so its ticket passes
  pub release_passes : (b : Book E) (t : Ticket) → Holding b t → ticket_check b t None ≡ None
  unfolding among
  release_passes b t h =
      let kept = (law_of h.going).conserved in
      let s : stands t.number (rows_of b) ≡ true =
      stands_among t.number (rows_of b) ∙ ap₂ {C = Bool} among kept.numbers h.number in
      check_past (not (eqb t.mark b.mark) || not (stands t.number (rows_of b))) no_booking None
      (or_from (not (eqb t.mark b.mark)) (not (stands t.number (rows_of b)))
      (not_from_true (eqb t.mark b.mark) (eq-eqb t.mark b.mark (h.mark ∙ sym kept.mark)))
      (not_from_true (stands t.number (rows_of b)) s))

  -- what the ledger says of the lines that are left
  pub groups_then : (b : Book E) (t : Ticket) (list list' : List ℕ) (r : Result ℕ Fault) → Holding b t → length list ≡ 4 → ListedByLaw b 1 list list' r
      → (is_ok r ≡ true) × OnlyPair list'
  groups_then b t list list' r h room q =
      let ns = h.shown in
      let fits : length (sites_in worked_file) ≤ length list = omega (arith, room, four_sites) in
      let told : (x y px py : ℕ) → At x px → At y py → x ≢ y → (is_ok r ≡ true) × ((get_or list' px 0 ≡ get_or list' py 0) ↔ Sharing (with_three ns) px py 1) =
      λ x y px py hx hy ne.
      q (with_three ns) h.going.reached x y px py (asked (with_three ns) x y px py 1 refl (omega arith) hx hy ne (omega arith) (omega arith)) fits in
      let at_10_20 = told 10 20 0 1 places.0 places.1 (λ e. omega arith) in
      let at_10_30 = told 10 30 0 2 places.0 places.2 (λ e. omega arith) in
      let at_20_30 = told 20 30 1 2 places.1 places.2 (λ e. omega arith) in
      let at_30_40 = told 30 40 2 3 places.2 places.3 (λ e. omega arith) in
      let shares = λ (x y : ℕ) (lx : x < 4) (ly : y < 4) (ne : x ≢ y). share_held b ns (law_of h.going) 1 x y lx ly ne in (
        at_10_20.0,
        record {
          one_30_40 = at_30_40.1.1 ((shares 2 3 (omega arith) (omega arith) (λ e. omega arith)).1 (omega (arith, levels_held.0)));
          two_10_20 = λ e. omega (arith, levels_held.1, (shares 0 1 (omega arith) (omega arith) (λ f. omega arith)).0 (at_10_20.1.0 e));
          two_10_30 = λ e. omega (arith, levels_held.2, (shares 0 2 (omega arith) (omega arith) (λ f. omega arith)).0 (at_10_30.1.0 e));
          two_20_30 = λ e. omega (arith, levels_held.3, (shares 1 2 (omega arith) (omega arith) (λ f. omega arith)).0 (at_20_30.1.0 e));
        },
      )

  pub three_returned : (b after : Book E) (t : Ticket) → Holding b t → Released b t after (Ok tt) → Returned after
  three_returned b after t h o =
      let l = with_three h.shown in
      record {
        shown = h.shown;
        going = further h.going (subst (λ (j : ℕ). Step b l after (struck l j)) h.number (releases b l t after tt o));
      }

  pub four_refused : (b : Book E) (r : Result Ticket Fault) → Returned b → BookedByLaw b 10 20 4 r → is_ok r ≡ false
  four_refused b r h q =
      (q (given_back h.shown) h.going.reached 0 1 (asked_10_20 (given_back h.shown) 4 refl (omega arith) (omega arith) (omega arith))).1.1 (cut_back h.shown)

  -- what comes along with the denial of four
  pub four_shown : (b after : Book E) (v s : ℕ) → Returned b → Booked b 10 20 4 after (Err (TooFewRoutes (record { value = v; side = s }))) → FourDenied (record { value = v; side = s })
  unfolding worked_file sites_in lines_in lowest_where numbers_from holders ended
  four_shown b after v s h o =
      let asked = asked_10_20 (given_back h.shown) 4 refl (omega arith) (omega arith) (omega arith) in
      let d = ((law_of h.going).smallest 10 20 0 1 4 asked).shown after v s o in
      let p : PartedBy 4 (worked Free) 0 1 v s = d.0 in
      let least = level_le 4 (worked Free) 0 1 s p.within (ap₂ {C = Bool} differ p.has_a p.lacks_b) in
      let e : v ≡ 3 = omega (arith, least, p.crossed, worked_cases.level_10_20, d.1) in
      (e, subst (λ (z : ℕ). PartedBy 4 (worked Free) 0 1 z s) e p)

  -- four are denied on no other ground than that there are too few
  pub only_few : (b after : Book E) (f : Fault) → Returned b → Booked b 10 20 4 after (Err f) → ground_of f ≡ too_few
  only_few b after f h o =
      let asked = asked_10_20 (given_back h.shown) 4 refl (omega arith) (omega arith) (omega arith) in
      let e : Some (ground_of f) ≡ Some too_few =
      sym o.0 ∙ ((law_of h.going).smallest 10 20 0 1 4 asked).denied_as_few.1 (cut_back h.shown) in cc
