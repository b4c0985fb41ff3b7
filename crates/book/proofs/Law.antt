-- The law of runs: what a book and its ledger agree on makes groups bookable, denials show the smallest cut, and lines
-- conserved.
use Rattle.std.proofs.Common.{◌≡◌, ℕ, ◌<◌, ◌≤◌, Bool, true, false, not, eqb, ltb, leb, ◌≢◌, ◌⊎◌, ◌↔◌, List, ◌++◌, map, length, get_or, drop, is_some, is_ok, Some, None, Ok, Err, Result, sym, refl, ap, ◌∙◌, subst, ap₂, inl, inr, arith}
use mathlib.Core.List.{map-map}
use Rattle.std.proofs.lemmas.List.{length-map, get_or-map, get_or_append_left}
use Rattle.std.proofs.lemmas.Bool.{false≢true, true≢false, cases_lt, ne_eqb, le-ltb, lt-ltb, ltb-true, ltb-false, lt-leb, or_from, not_from_true}
use Rattle.network.specs.declared.line.Line.{Line}
use Rattle.network.specs.declared.site.Site.{Site}
use Rattle.network.specs.Lines.{AllJoin}
use Rattle.network.specs.Sides.{differ}
use Rattle.network.specs.Cuts.{level_of}
use Rattle.network.specs.Groups.{Share, group_list}
use Rattle.network.specs.Lists.{distinct}
use Rattle.network.specs.Routes.{encoded}
use Rattle.network.specs.Answers.{PartedBy}
use Rattle.network.proofs.Levels.{level_le}
use Rattle.network.proofs.Parting.{attained}
use Rattle.network.proofs.Groups.{shared}
use Rattle.network.proofs.GroupList.{listed, entry, lowest_below}
use Rattle.network.proofs.Lists.{distinct_get_or}
use Rattle.book.specs.declared.standing.Standing.{Standing as Row}
use Rattle.book.specs.declared.fault.Fault.{Fault}
use Rattle.book.specs.declared.ticket.Ticket.{Ticket}
use Rattle.book.specs.declared.held.Book.{Book}
use Rattle.book.specs.Ledger.{Ledger, started, lines_now}
use Rattle.book.specs.Tables.{stands}
use Rattle.book.specs.Grounds.{no_site, same_site, level_out, numbers_spent, too_few, list_short, ground_of, check}
use Rattle.book.specs.Calls.{place_in, place_or_0, place, no_call_sign, site_number, k_out, sites_of, lines_of, shown_of, size_of, book_level, Opened, Booked, Showed, GroupsListed, booking_check, groups_check}
use Rattle.book.specs.Runs.{Asked, Sharing, SmallCut, booking_at, no_booking_there, Bookable, SmallestShown, Standing, Conserved, Law, Lawful, Reached, BookedByLaw, ShowedByLaw, ListedByLaw}
use Rattle.book.proofs.Alike.{join_alike}
use Rattle.book.proofs.Files.{found_at}
use Rattle.book.proofs.Shown.{none_some, check_none, check_past, shows_stretch}
use Rattle.book.proofs.Standings.{row_for, rows_for, cut_out, above_low, at_most, numbers_rise, each_stands}
use Rattle.book.proofs.Agreement.{Agrees, lines_agree, rows_sound, opened_agrees, run_agrees}

few_true : (t : Bool) → check t too_few None ≡ Some too_few → t ≡ true
few_true true e = refl
few_true false e = absurd (none_some None too_few refl e)

-- different places have different site numbers, so that a list of these tells groups as a list of places does
module _ (ss : List Site) (ls : List Line) (k : ℕ) (apart : distinct (map (λ s. s.number) ss) ≡ true) (net : AllJoin (length ss) ls) where
  number_at_place : (p : ℕ) → p < length ss → get_or (map (λ s. s.number) ss) p 0 ≡ site_number ss p
  number_at_place p l = get_or-map (λ (s : Site). s.number) ss p no_call_sign 0 l

  same_numbers : (p q : ℕ) → p < length ss → q < length ss → site_number ss p ≡ site_number ss q → p ≡ q
  same_numbers p q l m e =
      let n = length-map ss (λ (s : Site). s.number) in
      distinct_get_or (map (λ (s : Site). s.number) ss) p q 0 apart (omega (arith, n)) (omega (arith, n))
      (number_at_place p l ∙ e ∙ sym (number_at_place q m))

  abbrev groups : List ℕ
  groups = group_list (length ss) ls k

  entry_below : (p : ℕ) → p < length ss → get_or groups p 0 < length ss
  entry_below p l = omega (arith, entry (length ss) ls k net p l, lowest_below (length ss) ls k net p)

  written_at : (rest : List ℕ) (p : ℕ) → p < length ss → get_or (map (site_number ss) groups ++ rest) p 0 ≡ site_number ss (get_or groups p 0)
  written_at rest p l =
      let n = (listed (length ss) ls k net).entries in
      get_or_append_left (map (site_number ss) groups) rest 0 p (omega (arith, n, length-map groups (site_number ss)))
      ∙ get_or-map (site_number ss) groups p 0 0 (omega (arith, n))

  numbers_tell : (rest : List ℕ) (p q : ℕ) → p < length ss → q < length ss
      → (get_or (map (site_number ss) groups ++ rest) p 0 ≡ get_or (map (site_number ss) groups ++ rest) q 0) ↔ Share (length ss) ls k p q
  numbers_tell rest p q l m =
      let same = (listed (length ss) ls k net).same p q l m in
      let ep = written_at rest p l in
      let eq = written_at rest q m in (
        (λ e. same.0 (same_numbers (get_or groups p 0) (get_or groups q 0) (entry_below p l) (entry_below q m) (sym ep ∙ e ∙ eq))),
        (λ s. ep ∙ ap (site_number ss) (same.1 s) ∙ sym eq),
      )

module _ {E : Type 0} where
  net_now : (b : Book E) (l : Ledger) → Agrees b l → AllJoin (length l.sites) (lines_now l)
  net_now b l a =
      subst (λ (ls : List Line). AllJoin (length l.sites) ls) (lines_agree b l a)
      (join_alike (lines_of b) l.lines a.alike (length l.sites) a.formed.joined)

  -- two sites that can be asked for
  module _ (b : Book E) (l : Ledger) (a : Agrees b l) (x y px py k : ℕ) (q : Asked l x y px py k) where
    x_found : (px < length l.sites) × (get_or (map (λ s. s.number) l.sites) px 0 ≡ x)
    x_found =
        let f = found_at (map (λ (s : Site). s.number) l.sites) x px q.first in
        (omega (arith, f.0, length-map l.sites (λ (s : Site). s.number)), f.1)

    y_found : (py < length l.sites) × (get_or (map (λ s. s.number) l.sites) py 0 ≡ y)
    y_found =
        let f = found_at (map (λ (s : Site). s.number) l.sites) y py q.second in
        (omega (arith, f.0, length-map l.sites (λ (s : Site). s.number)), f.1)

    places_differ : px ≢ py
    places_differ e = q.apart (sym x_found.1 ∙ ap (λ (p : ℕ). get_or (map (λ s. s.number) l.sites) p 0) e ∙ y_found.1)

    x_there : place_in (sites_of b) x ≡ Some px
    x_there = ap (λ (ss : List Site). place_in ss x) a.sites ∙ q.first

    y_there : place_in (sites_of b) y ≡ Some py
    y_there = ap (λ (ss : List Site). place_in ss y) a.sites ∙ q.second

    -- what is said of the book's places and lines is said of the ledger's
    moved : (P : ℕ → List Line → ℕ → ℕ → Type 0) → P (size_of b) (lines_of b) (place (sites_of b) x) (place (sites_of b) y)
        → P (length l.sites) (lines_now l) px py
    moved P h =
        subst (λ (m : ℕ). P m (lines_now l) px py) (ap length a.sites)
        (subst (λ (ls : List Line). P (size_of b) ls px py) (lines_agree b l a)
        (subst (λ (i : ℕ). P (size_of b) (lines_of b) i py) (ap place_or_0 x_there)
        (subst (λ (j : ℕ). P (size_of b) (lines_of b) (place (sites_of b) x) j) (ap place_or_0 y_there) h)))

    level : ℕ
    level = level_of (length l.sites) (lines_now l) px py

    level_is : book_level b x y ≡ level
    unfolding level
    level_is = moved (λ n ls i j. book_level b x y ≡ level_of n ls i j) refl

    k_within : k_out k ≡ false
    k_within = or_from (eqb k 0) (ltb 512 k) (ne_eqb k 0 (omega (arith, q.low))) (le-ltb 512 k q.high)

    -- all checks but the last pass
    checked : booking_check b x y k ≡ check (ltb level k) too_few None
    checked =
        let few = check (ltb (book_level b x y) k) too_few None in
        let spent = check (leb 65535 b.count) numbers_spent few in
        let out = check (k_out k) level_out spent in
        let same = check (eqb x y) same_site out in
        let second = check (not (is_some (place_in (sites_of b) y))) (no_site y) same in
        check_past (not (is_some (place_in (sites_of b) x))) (no_site x) second (not_from_true (is_some (place_in (sites_of b) x)) (ap is_some x_there))
        ∙ check_past (not (is_some (place_in (sites_of b) y))) (no_site y) same (not_from_true (is_some (place_in (sites_of b) y)) (ap is_some y_there))
        ∙ check_past (eqb x y) same_site out (ne_eqb x y q.apart)
        ∙ check_past (k_out k) level_out spent k_within
        ∙ check_past (leb 65535 b.count) numbers_spent few (lt-leb 65535 b.count (omega (arith, a.count, q.numbers_left)))
        ∙ ap (λ (v : ℕ). check (ltb v k) too_few None) level_is

    none_level : (booking_check b x y k ≡ None) ↔ (k ≤ level)
    none_level = (
      (λ e. ltb-false level k (check_none (ltb level k) too_few None (sym checked ∙ e)).0),
      (λ h. checked ∙ check_past (ltb level k) too_few None (le-ltb level k h)),
    )

    few_level : (booking_check b x y k ≡ Some too_few) ↔ (level < k)
    few_level = (
      (λ e. ltb-true level k (few_true (ltb level k) (sym checked ∙ e))),
      (λ h. checked ∙ ap (λ (t : Bool). check t too_few None) (lt-ltb level k h)),
    )

    few_or_none_here : (booking_check b x y k ≡ None) ⊎ (booking_check b x y k ≡ Some too_few)
    few_or_none_here = elim (cases_lt level k) [ inl h ↦ inr (few_level.1 h) | inr h ↦ inl (none_level.1 h) ]

    share_level : Sharing l px py k ↔ (k ≤ level)
    unfolding level
    share_level = shared (length l.sites) (lines_now l) k px py (net_now b l a) x_found.0 y_found.0 places_differ

    passes_here : (booking_check b x y k ≡ None) ↔ Sharing l px py k
    passes_here = ((λ e. share_level.1 (none_level.0 e)), (λ s. none_level.1 (share_level.0 s)))

    cut_level : (level < k) ↔ SmallCut l px py k
    unfolding level
    cut_level = (
      (λ h.
          let c = attained (length l.sites) (lines_now l) px py (net_now b l a) x_found.0 y_found.0 places_differ in
          let w = c.1 in
          (c.0, w.within, ap₂ {C = Bool} differ w.has_a w.lacks_b, omega (arith, w.crossed))),
      (λ c. omega (arith, level_le (length l.sites) (lines_now l) px py c.0 c.1 c.2, c.3)),
    )

    few_here : (booking_check b x y k ≡ Some too_few) ↔ SmallCut l px py k
    few_here = ((λ e. cut_level.0 (few_level.0 e)), (λ c. few_level.1 (cut_level.1 c)))

    outcome_here : (after : Book E) (r : Result Ticket Fault) → Booked b x y k after r → (is_ok r ≡ true) ↔ Sharing l px py k
    outcome_here after (Ok t) o = ((λ e. passes_here.0 o.0), (λ s. refl))
    outcome_here after (Err f) o =
        ((λ e. absurd (false≢true e)), (λ s. absurd (none_some (booking_check b x y k) (ground_of f) (passes_here.1 s) o.0)))

    denied_here : (after : Book E) (r : Result Ticket Fault) → Booked b x y k after r → (is_ok r ≡ false) ↔ SmallCut l px py k
    denied_here after (Ok t) o = ((λ e. absurd (true≢false e)), (λ c. absurd (none_some (booking_check b x y k) too_few o.0 (few_here.1 c))))
    denied_here after (Err f) o = (
      (λ e. elim few_or_none_here [
        | inl n ↦ absurd (none_some (booking_check b x y k) (ground_of f) n o.0)
        | inr n ↦ few_here.0 n
      ]),
      (λ c. refl),
    )

    listing_here : (list list' : List ℕ) (r : Result ℕ Fault) → length l.sites ≤ length list → GroupsListed b k list list' r
        → (is_ok r ≡ true) × ((get_or list' px 0 ≡ get_or list' py 0) ↔ Sharing l px py k)
    listing_here list list' (Ok m) room o =
        let e : list' ≡ map (site_number l.sites) (group_list (length l.sites) (lines_now l) k) ++ drop (length l.sites) list =
        o.2
        ∙ ap (λ (ss : List Site). map (site_number ss) (group_list (length ss) (lines_of b) k) ++ drop (length ss) list) a.sites
        ∙ ap (λ (ls : List Line). map (site_number l.sites) (group_list (length l.sites) ls k) ++ drop (length l.sites) list) (lines_agree b l a) in (
          refl,
          subst (λ (z : List ℕ). (get_or z px 0 ≡ get_or z py 0) ↔ Sharing l px py k) (sym e)
              (numbers_tell l.sites (lines_now l) k a.formed.sites_distinct (net_now b l a) (drop (length l.sites) list) px py x_found.0 y_found.0),
        )
    listing_here list list' (Err f) room o =
        let short = check (ltb (length list) (size_of b)) list_short None in
        absurd
        (none_some (groups_check b k (length list)) (ground_of f)
        (check_past (k_out k) level_out short k_within
        ∙ check_past (ltb (length list) (size_of b)) list_short None (le-ltb (length list) (size_of b) (omega (arith, ap length a.sites))))
        o.0)

    bookable_here : Bookable b l x y px py k
    bookable_here = record { few_or_none = few_or_none_here; passes = passes_here; outcome = outcome_here; listing = listing_here }

    smallest_here : SmallestShown b l x y px py k
    unfolding level
    smallest_here =
        record {
          denied_as_few = few_here;
          shown = λ after v s o.
              let v_is : v ≡ level = o.1.0 ∙ level_is in (
                moved (λ n ls i j. PartedBy n ls i j v s) o.1.1,
                omega (arith, v_is, few_level.0 o.0),
                λ c h d. omega (arith, v_is, level_le (length l.sites) (lines_now l) px py c h d),
              );
        }

  -- what stands
  standing_here : (b : Book E) (l : Ledger) → Agrees b l → (i : ℕ) → i < length l.standing → Standing b l i
  standing_here b l a i h =
      let ks = l.standing in
      let j = (booking_at l i).number in
      let p = a.placed i h in
      let rises = rows_sound b l a in
      let e = each_stands l.lines (lines_of b) 0 b.count ks i no_booking_there rises h in
      record {
        from_place = p.from_place;
        to_place = p.to_place;
        first = p.first;
        second = p.second;
        separates = p.separates;
        writes =
            shows_stretch b j (encoded l.lines (booking_at l i).routes) (ap (stands j) a.rows ∙ e.0)
            (ap (λ (z : List Row). cut_out j z (shown_of b)) a.rows ∙ ap (cut_out j (rows_for l.lines ks)) a.shown ∙ e.1);
        given = (
          above_low l.lines (lines_of b) 0 b.count ks i no_booking_there rises h,
          omega (arith, at_most l.lines (lines_of b) 0 b.count ks i no_booking_there rises h, a.count),
        );
        rising = λ j m. numbers_rise l.lines (lines_of b) 0 b.count ks i j no_booking_there rises h m;
      }

  conserved_here : (b : Book E) (l : Ledger) → Agrees b l → Conserved b l
  conserved_here b l a =
      record {
        sites = a.sites;
        lines = lines_agree b l a;
        once = a.once;
        mark = a.mark;
        count = a.count;
        numbers =
            ap (λ (z : List Row). map (λ s. s.number) z) a.rows ∙ map-map (λ (s : Row). s.number) (row_for l.lines) l.standing;
        standing = standing_here b l a;
      }

  pub law_holds : (b : Book E) (l : Ledger) → Agrees b l → Law b l
  law_holds b l a = record { bookable = bookable_here b l a; smallest = smallest_here b l a; conserved = conserved_here b l a }

  pub reached_agrees : {b : Book E} {l : Ledger} → Reached b l → Agrees b l
  reached_agrees w = run_agrees (opened_agrees w.before w.bytes w.mark w.first tt w.opening) w.run

  pub reached_law : {b : Book E} {l : Ledger} → Reached b l → Law b l
  reached_law {b} {l} w = law_holds b l (reached_agrees w)

  pub opened_lawful : (b : Book E) (bytes : List ℕ) (m : ℕ) (after : Book E) (r : Result (Unit {0}) Fault) → Opened b bytes m after r → is_ok r ≡ true
      → Lawful after (started bytes m)
  opened_lawful b bytes m after (Ok u) o e b' l r = law_holds b' l (run_agrees (opened_agrees b bytes m after u o) r)
  opened_lawful b bytes m after (Err f) o e b' l r = absurd (false≢true e)

  pub booking_lawful : (b : Book E) (x y k : ℕ) (after : Book E) (r : Result Ticket Fault) → Booked b x y k after r → BookedByLaw b x y k r
  booking_lawful b x y k after r o l w px py q =
      let a = reached_agrees w in (outcome_here b l a x y px py k q after r o, denied_here b l a x y px py k q after r o)

  pub showing_lawful : (b : Book E) (t : Ticket) (list list' : List ℕ) (r : Result ℕ Fault) → Showed b t list list' r → ShowedByLaw b t list list' r
  showing_lawful b t list list' r s l w i h m n room =
      let a = reached_agrees w in (standing_here b l a i h).writes t list list' r (m ∙ sym a.mark) n room s

  pub listing_lawful : (b : Book E) (k : ℕ) (list list' : List ℕ) (r : Result ℕ Fault) → GroupsListed b k list list' r → ListedByLaw b k list list' r
  listing_lawful b k list list' r o l w x y px py q room = listing_here b l (reached_agrees w) x y px py k q list list' r room o
