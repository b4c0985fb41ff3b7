-- What a book and its ledger agree on, and that every call keeps it.
use Rattle.std.proofs.Common.{◌≡◌, ℕ, ◌+◌, ◌<◌, Bool, true, false, cond, not, eqb, ltb, leb, List, [], ◌∷◌, ◌++◌, length, get_or, is_some, Some, None, Ok, Err, Option, sym, refl, ap, ◌∙◌, subst, arith}
use Rattle.std.proofs.lemmas.List.FromFn.{fill_by_all}
use Rattle.std.proofs.lemmas.List.{append-nil, map-append}
use Rattle.std.proofs.lemmas.Bool.{false≢true, lt-ltb, not-false}
use Rattle.network.specs.declared.line.Line.{Line}
use Rattle.network.specs.declared.line.LineState.{LineState}
use Rattle.network.specs.declared.line.LineState.TheVariants.{Free, Held}
use Rattle.network.specs.declared.site.Site.{Site}
use Rattle.network.specs.Lines.{is_free, line_at, no_line}
use Rattle.network.specs.Lists.{every}
use Rattle.network.specs.Routes.{route, on_any, encoded, decode, SeparateRoutes}
use Rattle.network.proofs.Lists.{every_weaker, every_from_among}
use Rattle.network.proofs.Chains.{route_parts, chained_below}
use Rattle.network.proofs.ReadBack.{read_back}
use Rattle.netfile.specs.declared.faults.NetworkFault.{NetworkFault}
use Rattle.netfile.specs.Meaning.{first_fault}
use Rattle.book.specs.declared.standing.Standing.{Standing}
use Rattle.book.specs.declared.ticket.Ticket.{Ticket}
use Rattle.book.specs.declared.held.Book.{Book}
use Rattle.book.specs.Ledger.{Ledger, Booking, started, entered, struck, holders, state_by, with_state, lines_now}
use Rattle.book.specs.Tables.{held_by, lines_on, stands, without, sound}
use Rattle.book.specs.Grounds.{Ground, already_open, file_fault, no_site, same_site, level_out, numbers_spent, too_few, check, file_check}
use Rattle.book.specs.Calls.{place_in, place_or_0, place, k_out, sites_of, lines_of, rows_of, shown_of, size_of, book_level, Opened, Started, Taken, Freed, sites_check, booking_check}
use Rattle.book.specs.Runs.{Run, begun, onward, Step, opens, books, denies, releases, keeps, shows, asks_level, asks_cut, lists, Shows, holds, no_booking_there}
use Rattle.book.proofs.Alike.{Alike, alike_trans, alike_changed, same_lines, with_own_state, encoded_alike, separate_alike}
use Rattle.book.proofs.Files.{WellFormed, FileFacts, file_facts}
use Rattle.book.proofs.Marks.{on_any_free, state_freed}
use Rattle.book.proofs.Shown.{none_some, check_none, passed, shows_only, taken_cut}
use Rattle.book.proofs.Standings.{row_for, rows_for, numbers_for, numbers_push, cut_away, ended_rows, ended_numbers, each_ended, each_push, minus, holders_ended, minus_holds, holders_push, state_holds}

-- a booking has k separate routes between the places of its two sites
pub record Placed (ss : List Site) (ls : List Line) (k : Booking) : Type 0 where
  pub from_place : ℕ
  pub to_place : ℕ
  pub first : place_in ss k.from ≡ Some from_place
  pub second : place_in ss k.to ≡ Some to_place
  pub separates : SeparateRoutes ls from_place to_place k.wanted k.routes

-- routes are chains of lines of the table
routes_below : (ls : List Line) (a b : ℕ) (rs : List (List ℕ)) → every (route ls a b) rs ≡ true → every (λ r. every (λ p. ltb p (length ls)) r) rs ≡ true
routes_below ls a b rs h =
    every_weaker (route ls a b) (λ r. every (λ p. ltb p (length ls)) r) rs
    (λ r q. every_from_among (λ p. ltb p (length ls)) r (λ p m. lt-ltb p (length ls) (chained_below ls a r p (route_parts ls a b r q).0 m))) h

-- a line that one more booking may have on its routes
held_once : (t : Bool) (l : Line) (n : ℕ) (hs : List ℕ) → (t ≡ true → is_free l.state ≡ true) → hs ≡ holds l.state
    → hs ++ cond t (n ∷ []) [] ≡ holds (cond t (with_state (Held n) l) l).state
held_once true l n hs f e = ap (λ (z : List ℕ). z ++ n ∷ []) (e ∙ free_holds l.state (f refl))
  where
    free_holds : (s : LineState) → is_free s ≡ true → holds s ≡ []
    free_holds Free h = refl
    free_holds (Held m) h = absurd (false≢true h)
held_once false l n hs f e = append-nil hs ∙ e

-- the row of the routes rs under a number, whatever the numbers and the lengths are called
same_row : (n m : ℕ) (rs ss : List (List ℕ)) (h k : ℕ) → n ≡ m → rs ≡ ss → h ≡ k
    → ◌≡◌ {A = Standing} (record { number = n; held = lines_on rs; length = h }) (record { number = m; held = lines_on ss; length = k })
same_row n m rs ss h k e f g =
    ap (λ (z : ℕ). record { number = z; held = lines_on rs; length = h }) e
    ∙ ap (λ (z : List (List ℕ)). record { number = m; held = lines_on z; length = h }) f
    ∙ ap (λ (z : ℕ). record { number = m; held = lines_on ss; length = z }) g

some_place : (o : Option ℕ) → is_some o ≡ true → o ≡ Some (place_or_0 o)
some_place (Some p) h = refl
some_place None h = absurd (false≢true h)

no_file_fault : (o : Option NetworkFault) → file_check o ≡ None → o ≡ None
no_file_fault None e = refl
no_file_fault (Some f) e = absurd (none_some (Some (file_fault f)) (file_fault f) e refl)

module _ {E : Type 0} where
  -- the book says of itself what the ledger says
  pub record Agrees (b : Book E) (l : Ledger) : Type 0 where
    pub formed : WellFormed l.sites l.lines
    pub sites : sites_of b ≡ l.sites
    pub alike : Alike (lines_of b) l.lines
    pub mark : b.mark ≡ l.mark
    pub count : b.count ≡ l.count
    pub rows : rows_of b ≡ rows_for l.lines l.standing
    pub shown : shown_of b ≡ numbers_for l.lines l.standing
    pub once : (p : ℕ) → p < length l.lines → holders p l.standing ≡ holds (line_at (lines_of b) p).state
    pub placed : (i : ℕ) → i < length l.standing → Placed l.sites l.lines (get_or l.standing i no_booking_there)

  -- the lines are as the ledger has them
  pub lines_agree : (b : Book E) (l : Ledger) → Agrees b l → lines_of b ≡ lines_now l
  lines_agree b l a =
      fill_by_all (λ p. with_state (state_by (holders p l.standing)) (line_at l.lines p)) (lines_of b) (length l.lines) no_line a.alike.size
      (λ p h. sym
      (ap (λ (s : LineState). with_state s (line_at l.lines p)) (ap state_by (a.once p h) ∙ state_holds (line_at (lines_of b) p).state)
      ∙ with_own_state (line_at (lines_of b) p) (line_at l.lines p) (a.alike.line p)))

  -- the rows of the ledger's bookings are sound
  pub rows_sound : (b : Book E) (l : Ledger) → Agrees b l → sound (lines_of b) 0 b.count (rows_for l.lines l.standing) ≡ true
  rows_sound b l a = subst (λ (z : List Standing). sound (lines_of b) 0 b.count z ≡ true) a.rows b.rises

  -- an accepted opening
  started_agrees : (bytes : List ℕ) (m : ℕ) (b : Book E) → Started bytes m b → FileFacts bytes → Agrees b (started bytes m)
  unfolding holders
  started_agrees bytes m b s f =
      record {
        formed = f;
        sites = s.sites;
        alike = same_lines s.lines;
        mark = s.mark;
        count = s.count;
        rows = s.rows;
        shown = s.shown;
        once = λ p h. sym (ap (λ (ls : List Line). holds (line_at ls p).state) s.lines ∙ ap holds (f.all_free p h));
        placed = λ i h. absurd (omega arith);
      }

  pub opened_agrees : (b : Book E) (bytes : List ℕ) (m : ℕ) (after : Book E) (u : Unit {0}) → Opened b bytes m after (Ok u) → Agrees after (started bytes m)
  opened_agrees b bytes m after u o =
      let c = check_none (not (eqb (size_of b) 0)) already_open (file_check (first_fault bytes)) o.0 in
      started_agrees bytes m after o.1 (file_facts bytes (no_file_fault (first_fault bytes) c.1))

  -- two sites that passed their checks
  pub sites_passed : (b : Book E) (x y : ℕ) (rest : Option Ground) → sites_check b x y rest ≡ None
      → (place_in (sites_of b) x ≡ Some (place (sites_of b) x)) × (place_in (sites_of b) y ≡ Some (place (sites_of b) y)) × (eqb x y ≡ false) × (rest ≡ None)
  sites_passed b x y rest e =
      let px = place_in (sites_of b) x in
      let py = place_in (sites_of b) y in
      let c1 = check_none (not (is_some px)) (no_site x) (check (not (is_some py)) (no_site y) (check (eqb x y) same_site rest)) e in
      let c2 = check_none (not (is_some py)) (no_site y) (check (eqb x y) same_site rest) c1.1 in
      let c3 = check_none (eqb x y) same_site rest c2.1 in
      (some_place px (not-false (is_some px) c1.0), some_place py (not-false (is_some py) c2.0), c3.0, c3.1)

  -- an accepted booking
  taken_agrees : (b : Book E) (l : Ledger) (x y k : ℕ) (after : Book E) (t : Ticket) (ns : List ℕ) → Agrees b l → booking_check b x y k ≡ None
      → Taken b x y k after t → Shows after t.mark t.number ns → Agrees after (entered l x y k ns)
  taken_agrees b l x y k after t ns a c w s =
      let n = b.count + 1 in
      let rs = w.routes in
      let tc = taken_cut b x y k after t w in
      let s2 : Shows after after.mark n ns =
      subst (λ (m : ℕ). Shows after m n ns) (w.ticket_mark ∙ sym w.mark) (subst (λ (j : ℕ). Shows after t.mark j ns) w.ticket_number s) in
      let by_file : encoded (lines_of b) rs ≡ encoded l.lines rs = encoded_alike (lines_of b) l.lines a.alike rs in
      let same : ns ≡ encoded (lines_of b) rs = shows_only after n ns tc.0 s2 ∙ tc.1 in
      let sp = sites_passed b x y (check (k_out k) level_out (check (leb 65535 b.count) numbers_spent (check (ltb (book_level b x y) k) too_few None))) c in
      let px = place (sites_of b) x in
      let py = place (sites_of b) y in
      let sr : SeparateRoutes l.lines px py k rs = separate_alike (lines_of b) l.lines a.alike px py k rs w.chosen.separates in
      let back : decode l.lines ns ≡ rs =
      ap (decode l.lines) (same ∙ by_file)
      ∙ read_back l.lines rs a.formed.lines_distinct (routes_below l.lines px py rs sr.routes) in
      let more : b.count + 1 ≡ l.count + 1 = ap (λ (z : ℕ). z + 1) a.count in
      let kk : Booking = record { number = l.count + 1; from = x; to = y; wanted = k; routes = decode l.lines ns } in
      let again : encoded (lines_of b) rs ≡ encoded l.lines (decode l.lines ns) = by_file ∙ ap (encoded l.lines) (sym back) in
      record {
        formed = a.formed;
        sites = w.sites ∙ a.sites;
        alike = alike_trans (alike_changed (lines_of b) (lines_of after) (on_any rs) (Held n) w.size w.line) a.alike;
        mark = w.mark ∙ a.mark;
        count = w.count ∙ more;
        rows =
            w.rows ∙ ap (λ (z : List Standing). z ++ record { number = n; held = lines_on rs; length = length (encoded (lines_of b) rs) } ∷ []) a.rows
            ∙ ap (λ (z : Standing). rows_for l.lines l.standing ++ z ∷ [])
            (same_row n (l.count + 1) rs (decode l.lines ns) (length (encoded (lines_of b) rs)) (length (encoded l.lines (decode l.lines ns)))
            more (sym back) (ap length again))
            ∙ sym (map-append (row_for l.lines) l.standing (kk ∷ []));
        shown =
            w.shown ∙ ap (λ (z : List ℕ). z ++ encoded (lines_of b) rs) a.shown
            ∙ ap (λ (z : List ℕ). numbers_for l.lines l.standing ++ z) again ∙ sym (numbers_push l.lines l.standing kk);
        once = λ p q.
            let pl : p < length (lines_of b) = omega (arith, a.alike.size) in
            holders_push p l.standing kk
            ∙ ap (λ (z : List (List ℕ)). holders p l.standing ++ cond (on_any z p) ((l.count + 1) ∷ []) []) back
            ∙ ap (λ (z : ℕ). holders p l.standing ++ cond (on_any rs p) (z ∷ []) []) (sym more)
            ∙ held_once (on_any rs p) (line_at (lines_of b) p) n (holders p l.standing) (λ h. on_any_free (lines_of b) rs p w.chosen.all_free h) (a.once p q)
            ∙ sym (ap (λ (z : Line). holds z.state) (w.line p pl));
        placed =
            each_push (Placed l.sites l.lines) l.standing kk no_booking_there a.placed
            (record {
              from_place = px;
              to_place = py;
              first = ap (λ (ss : List Site). place_in ss x) (sym a.sites) ∙ sp.0;
              second = ap (λ (ss : List Site). place_in ss y) (sym a.sites) ∙ sp.1;
              separates = subst (λ (z : List (List ℕ)). SeparateRoutes l.lines px py k z) (sym back) sr;
            });
      }

  -- an accepted release
  freed_agrees : (b : Book E) (l : Ledger) (j : ℕ) (after : Book E) → Agrees b l → stands j (rows_of b) ≡ true → Freed b j after → Agrees after (struck l j)
  freed_agrees b l j after a h w =
      let ks = l.standing in
      let rises = rows_sound b l a in
      let hs : stands j (rows_for l.lines ks) ≡ true = sym (ap (stands j) a.rows) ∙ h in
      record {
        formed = a.formed;
        sites = w.sites ∙ a.sites;
        alike =
            alike_trans (alike_changed (lines_of b) (lines_of after) (λ p. held_by j (line_at (lines_of b) p).state) Free w.size w.line) a.alike;
        mark = w.mark ∙ a.mark;
        count = w.count ∙ a.count;
        rows = w.rows ∙ ap (without j) a.rows ∙ ended_rows l.lines (lines_of b) 0 b.count j ks rises;
        shown =
            w.shown ∙ ap (λ (z : List Standing). cut_away j z (shown_of b)) a.rows ∙ ap (cut_away j (rows_for l.lines ks)) a.shown
            ∙ ended_numbers l.lines (lines_of b) 0 b.count j ks rises hs;
        once = λ p q.
            let pl : p < length (lines_of b) = omega (arith, a.alike.size) in
            holders_ended p j ks ∙ ap (minus j) (a.once p q) ∙ minus_holds j (line_at (lines_of b) p).state
            ∙ sym (ap holds (state_freed (lines_of b) (lines_of after) j w.size w.line p pl));
        placed = each_ended (Placed l.sites l.lines) j ks no_booking_there a.placed;
      }

  -- every call keeps what book and ledger agree on
  pub step_agrees : {b : Book E} {l : Ledger} {after : Book E} {l' : Ledger} → Step b l after l' → Agrees b l → Agrees after l'
  step_agrees (opens b l bytes m after (Ok u) o) a = opened_agrees b bytes m after u o
  step_agrees (opens b l bytes m after (Err f) o) a = subst (λ (z : Book E). Agrees z l) (sym o.1) a
  step_agrees (books b l x y k after t o ns s) a = taken_agrees b l x y k after t ns a o.0 o.1 s
  step_agrees (denies b l x y k after f o) a = subst (λ (z : Book E). Agrees z l) (sym o.2) a
  step_agrees (releases b l t after u o) a = freed_agrees b l t.number after a (passed b t None o.0) o.1
  step_agrees (keeps b l t after d o) a = subst (λ (z : Book E). Agrees z l) (sym o.2) a
  step_agrees (shows b l t list list' r o) a = a
  step_agrees (asks_level b l x y r o) a = a
  step_agrees (asks_cut b l x y r o) a = a
  step_agrees (lists b l k list list' r o) a = a

  pub run_agrees : {b₀ : Book E} {l₀ : Ledger} {b : Book E} {l : Ledger} → Agrees b₀ l₀ → Run b₀ l₀ b l → Agrees b l
  run_agrees a begun = a
  run_agrees a (onward r s) = step_agrees s (run_agrees a r)

  -- runs compose
  pub compose : {b₀ : Book E} {l₀ : Ledger} {b₁ : Book E} {l₁ : Ledger} {b : Book E} {l : Ledger} → Run b₀ l₀ b₁ l₁ → Run b₁ l₁ b l → Run b₀ l₀ b l
  compose r begun = r
  compose r (onward q s) = onward (compose r q) s
