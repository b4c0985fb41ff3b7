use Rattle.std.proofs.Common.{◌≡◌, ℕ, ◌+◌, ◌-◌, ◌<◌, ◌≤◌, List, [], ◌∷◌, ◌++◌, length, take, vec_items, vec_len, sym, refl, ap, ◌∙◌, subst, arith, rules}
use Rattle.std.proofs.lemmas.List.{length-take-le, length-append}
use Rattle.network.specs.declared.line.Line.{Line}
use Rattle.network.specs.declared.line.LineState.TheVariants.{Held}
use Rattle.network.specs.Routes.{written, encoded, on_any}
use Rattle.book.specs.declared.standing.Standing.{Standing}
use Rattle.book.specs.Tables.{total_held, total_shown, lines_on}
use Rattle.book.specs.Listings.{numbers_told}
use Rattle.book.proofs.Places.{tells_moved, fits_moved}
use Rattle.book.proofs.Preparing.{room_left}
use Rattle.book.proofs.Rows.{sound_push, held_push, shown_push}
use Rattle.book.proofs.Marks.{joined_still, free_taken, owned_new, owned_other}
use Rattle.book.proofs.Entering.{told_inside, told_length, told_numbers, encoded_length, told_some, given_size, given_line, lines_left}
use Rattle.book.proofs.held.Book.enter.Goals as goal

-- the front of a list
front : (w : ℕ) (list xs : List ℕ) → take w list ≡ xs → take (w - 0) list ≡ xs
front w list xs e = let z : w - 0 ≡ w = omega arith in ap (λ (m : ℕ). take m list) z ∙ e

front_length : (w : ℕ) (list : List ℕ) → w ≤ length list → length (take (w - 0) list) ≡ w
front_length w list l = let z : w - 0 ≡ w = omega arith in ap (λ (m : ℕ). length (take m list)) z ∙ length-take-le w list l

same_row : (n h h' w w' : ℕ) → h ≡ h' → w ≡ w' → ◌≡◌ {A = Standing} (record { number = n; held = h; length = w }) (record { number = n; held = h'; length = w' })
same_row n h h' w w' e f = rw (e, f) refl

pub tell-requires : goal.tell-requires
tell-requires g c =
    let b = c.args.self.now in let ls = vec_items b.lines in
    let ready = c.in_ok-length.ensures in let plan = ready.planned in
    let w = c.in_ok-length.length in let list = c.plan.new.list in
    let e = front w list (written (λ p. p) plan.routes) plan.listed in
    record {
      inside = λ p h. subst (λ (l : List Line). p < length l) (sym c.deref.ensures.value) (told_inside ls _ _ _ plan.routes (take (w - 0) list) plan.chosen e p h);
      room =
          (let total = told_length ls _ _ _ plan.routes (take (w - 0) list) plan.chosen e in
          let some = told_some ls _ _ _ plan.routes (take (w - 0) list) plan.chosen e ready.two in
          let free = lines_left ls _ _ _ plan.routes (take (w - 0) list) plan.chosen e in
          omega (arith, total, some, (room_left b free.0 (lines_on plan.routes) free.1 (omega (arith, ready.some, some))).1));
    }

pub hold-requires : goal.hold-requires
hold-requires g c =
    let b = c.args.self.now in let ls = vec_items b.lines in
    let ready = c.in_ok-length.ensures in let plan = ready.planned in
    let w = c.in_ok-length.length in let list = c.plan.new.list in
    let e = front w list (written (λ p. p) plan.routes) plan.listed in
    λ p h. omega (arith, told_inside ls _ _ _ plan.routes (take (w - 0) list) plan.chosen e p h, b.lines.ok.0)

pub tree_of-self-requires : goal.tree_of-self-requires
tree_of-self-requires g c =
    let b = c.args.self.now in let ls = vec_items b.lines in let ls' = vec_items c.hold.new.lines in let n = b.count + 1 in
    let ready = c.in_ok-length.ensures in let plan = ready.planned in let rs = plan.routes in
    let w = c.in_ok-length.length in let list = c.plan.new.list in let xs = take (w - 0) list in
    let e = front w list (written (λ p. p) rs) plan.listed in
    let size = given_size ls _ _ _ rs xs plan.chosen e n ls' c.hold.ensures.items in
    let line = given_line ls _ _ _ rs xs plan.chosen e n ls' c.hold.ensures.items in
    fits_moved (vec_len b.sites) (length c.deref-2.result.now) ls' c.deref-3.result.now (sym c.deref-2.ensures.len) (sym c.deref-3.ensures.value)
    (record {
      few_sites = b.few_sites;
      few_lines = omega (arith, size, b.few_lines, b.lines.ok.0);
      joined = joined_still (vec_len b.sites) ls ls' (on_any rs) (Held n) size line b.joined;
    })

pub overflow_sub-length : goal.overflow_sub-length
overflow_sub-length g c =
    let b = c.args.self.now in let ls = vec_items b.lines in
    let ready = c.in_ok-length.ensures in let plan = ready.planned in
    let w = c.in_ok-length.length in let list = c.plan.new.list in
    let e = front w list (written (λ p. p) plan.routes) plan.listed in
    omega (arith, told_length ls _ _ _ plan.routes (take (w - 0) list) plan.chosen e, front_length w list plan.room)

pub push_reserved-requires : goal.push_reserved-requires
push_reserved-requires g c =
    let b = c.args.self.now in let ls = vec_items b.lines in
    let ready = c.in_ok-length.ensures in let plan = ready.planned in let rs = plan.routes in
    let w = c.in_ok-length.length in let list = c.plan.new.list in let xs = take (w - 0) list in
    let e = front w list (written (λ p. p) rs) plan.listed in
    let free = lines_left ls _ _ _ rs xs plan.chosen e in
    (room_left b free.0 (lines_on rs) free.1 (omega (arith, ready.some, told_some ls _ _ _ rs xs plan.chosen e ready.two))).0

pub invariant_of-self : goal.invariant_of-self
invariant_of-self g c =
    let b = c.args.self.now in let ls = vec_items b.lines in let ls' = vec_items c.hold.new.lines in
    let rows = vec_items b.standing in let n = b.count + 1 in let k = c.args.k in
    let ready = c.in_ok-length.ensures in let plan = ready.planned in let rs = plan.routes in
    let w = c.in_ok-length.length in let list = c.plan.new.list in let xs = take (w - 0) list in
    let e = front w list (written (λ p. p) rs) plan.listed in
    let size = given_size ls _ _ _ rs xs plan.chosen e n ls' c.hold.ensures.items in
    let line = given_line ls _ _ _ rs xs plan.chosen e n ls' c.hold.ensures.items in
    let free = free_taken ls ls' _ _ _ rs n plan.chosen size line in
    let other = owned_other ls ls' _ _ _ rs n plan.chosen size line in
    let new = owned_new ls ls' _ _ _ rs n plan.chosen size line (b.given n (omega arith)) in
    let many : length xs ≡ w = front_length w list plan.room in
    let total = told_length ls _ _ _ rs xs plan.chosen e in
    let some = told_some ls _ _ _ rs xs plan.chosen e ready.two in
    let held : w - k ≡ lines_on rs = omega (arith, many, total) in
    let row : Standing = record { number = n; held = w - k; length = w } in
    let told = encoded_length ls _ _ _ rs xs plan.chosen e in
    let shown : vec_items c.tell.new.shown ≡ vec_items b.shown ++ encoded ls rs =
    c.tell.ensures.items ∙ ap (λ (z : List ℕ). vec_items b.shown ++ z) (ap (λ (l : List Line). numbers_told l 0 xs) c.deref.ensures.value ∙ told_numbers ls _ _ _ rs xs plan.chosen e) in
    let more : vec_len c.tell.new.shown ≡ vec_len b.shown + w =
    omega (arith, c.tell.new.shown.ok.0, b.shown.ok.0, ap length shown, length-append (vec_items b.shown) (encoded ls rs), told, many) in
    record {
      site_room = search rules;
      line_room = search rules;
      row_room = search rules;
      shown_room = omega (arith, b.shown_room, c.tell.ensures.capacity);
      few_sites = search rules;
      few_lines = search rules;
      joined = joined_still (vec_len b.sites) ls ls' (on_any rs) (Held n) size line b.joined;
      parted = let h = held_push row rows in let i = ap total_held c.push_reserved.ensures.items in omega (arith, i, h, held, free, b.parted, c.hold.ensures.len);
      totals = ap total_shown c.push_reserved.ensures.items ∙ shown_push row rows ∙ omega (arith, b.totals, more);
      rises = rw c.push_reserved.ensures.items (sound_push row ls ls' 0 b.count rows b.rises (λ m l. other m (omega arith)) (new ∙ sym held) (omega (arith, held, some, ready.some)) (omega (arith, held, many, total, some)) (omega arith));
      given = λ m l. other m (omega (arith, l)) ∙ b.given m (omega (arith, l));
      spans = c.tree_of-self.ensures.spans ∙ c.deref-2.ensures.len;
      tells = tells_moved (length c.deref-2.result.now) (vec_len b.sites) c.deref-3.result.now ls' c.tree_of-self.result c.deref-2.ensures.len c.deref-3.ensures.value c.tree_of-self.ensures.tells;
      unopened = λ z. absurd (omega (arith, z, ready.opened));
    }

pub returns : goal.returns
returns g c =
    let b = c.args.self.now in let ls = vec_items b.lines in let ls' = vec_items c.hold.new.lines in
    let rows = vec_items b.standing in let n = b.count + 1 in let k = c.args.k in
    let ready = c.in_ok-length.ensures in let plan = ready.planned in let rs = plan.routes in
    let w = c.in_ok-length.length in let list = c.plan.new.list in let xs = take (w - 0) list in
    let e = front w list (written (λ p. p) rs) plan.listed in
    let size = given_size ls _ _ _ rs xs plan.chosen e n ls' c.hold.ensures.items in
    let line = given_line ls _ _ _ rs xs plan.chosen e n ls' c.hold.ensures.items in
    let free = free_taken ls ls' _ _ _ rs n plan.chosen size line in
    let many : length xs ≡ w = front_length w list plan.room in
    let total = told_length ls _ _ _ rs xs plan.chosen e in
    let some = told_some ls _ _ _ rs xs plan.chosen e ready.two in
    let held : w - k ≡ lines_on rs = omega (arith, many, total) in (
      ready.passes,
      record {
        routes = rs;
        chosen = plan.chosen;
        sites = refl;
        size = size;
        line = line;
        rows = c.push_reserved.ensures.items ∙ ap (λ (r : Standing). rows ++ r ∷ []) (same_row n (w - k) (lines_on rs) w (length (encoded ls rs)) held (sym many ∙ sym (encoded_length ls _ _ _ rs xs plan.chosen e)));
        shown =
            c.tell.ensures.items
            ∙ ap (λ (z : List ℕ). vec_items b.shown ++ z) (ap (λ (l : List Line). numbers_told l 0 xs) c.deref.ensures.value ∙ told_numbers ls _ _ _ rs xs plan.chosen e);
        mark = refl;
        count = refl;
        ticket_mark = c.ticket.ensures.0;
        ticket_number = c.ticket.ensures.1;
      },
    )
