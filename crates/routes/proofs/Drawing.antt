-- Routes drawn one after the other.
use Rattle.std.proofs.Common.{◌≡◌, ℕ, suc, ◌+◌, ◌-◌, ◌<◌, ◌≤◌, Bool, true, false, not, List, [], ◌∷◌, ◌++◌, length, drop, set, sym, refl, ap, ◌∙◌, subst, arith}
use Rattle.std.proofs.lemmas.Bool.{and_parts, and_from, not_from_true}
use Rattle.std.proofs.lemmas.List.{drop_all, drop-set, drop-append-le, length-drop, length-append, length-set, map-id}
use Rattle.network.specs.declared.line.Line.{Line}
use Rattle.network.specs.declared.pair.Pair.{Pair}
use Rattle.network.specs.Lists.{every, meet}
use Rattle.network.specs.Routes.{route, meets_any, written}
use Rattle.network.specs.Flow.{Balanced}
use Rattle.network.proofs.Chains.{route_from, meets_any_none, meets_any_cons, separate_none, separate_cons}
use Rattle.network.proofs.Lists.{every_weaker, every_cons, every_parts, every_none, among_by_test, meet_none, meet_cons}
use Rattle.routes.specs.Taking.{carrying, listed}
use Rattle.routes.specs.Walks.{picked, Kept, Supplies, Back}
use Rattle.routes.specs.Draws.{Drawn}
use Rattle.routes.proofs.Steps.{carriers_le, kept_trans, picked_more, underway_end}

-- two lists of which one passes a test that the other fails have nothing in common
meet_by_test : (P : ℕ → Bool) (xs ys : List ℕ) → every P xs ≡ true → every (λ p. not (P p)) ys ≡ true → meet xs ys ≡ false
meet_by_test P [] ys h g = meet_none ys
meet_by_test P (x ∷ xs) ys h g =
    let parts = every_parts P x xs h in
    meet_cons x xs ys (among_by_test (λ p. not (P p)) ys x g (not_from_true (P x) parts.0)) (meet_by_test P xs ys parts.1 g)

meets_none : (P : ℕ → Bool) (r : List ℕ) (rs : List (List ℕ)) → every P r ≡ true → every (every (λ p. not (P p))) rs ≡ true → meets_any r rs ≡ false
meets_none P r [] h g = meets_any_none r
meets_none P r (s ∷ rs) h g =
    let parts = every_parts (every (λ p. not (P p))) s rs g in
    meets_any_cons r s rs (meet_by_test P r s h parts.0) (meets_none P r rs h parts.1)

-- a test that another gives, in all routes
pub all_weaker : (P Q : ℕ → Bool) (rs : List (List ℕ)) → ((p : ℕ) → P p ≡ true → Q p ≡ true) → every (every P) rs ≡ true → every (every Q) rs ≡ true
all_weaker P Q rs h = every_weaker (every P) (every Q) rs (λ r. every_weaker P Q r h)

pub picked_was : (ms ms' : List ℕ) (p : ℕ) → picked ms ms' p ≡ true → carrying ms p ≡ true
picked_was ms ms' p h = (and_parts (carrying ms p) (not (carrying ms' p)) h).0

picked_not : (ms ms' : List ℕ) (p : ℕ) → picked ms ms' p ≡ true → not (carrying ms' p) ≡ true
picked_not ms ms' p h = (and_parts (carrying ms p) (not (carrying ms' p)) h).1

picked_wider : (ms ms' ms'' : List ℕ) (p : ℕ) → Kept ms ms' → picked ms' ms'' p ≡ true → picked ms ms'' p ≡ true
picked_wider ms ms' ms'' p h e = and_from (carrying ms p) (not (carrying ms'' p)) (h p (picked_was ms' ms'' p e)) (picked_not ms' ms'' p e)

pub drawn_none : (q : Pair) (ms : List ℕ) (store : List ℕ) → Drawn q ms ms 0 [] store (length store)
unfolding written
drawn_none q ms store =
    record {
      many = refl;
      stands = drop_all (length store) store (omega arith);
      within = omega arith;
      routes = every_none (route q.net.lines.now q.a q.b);
      apart = separate_none;
      out = every_none (every (picked ms ms));
      kept = λ p e. e;
      fewer = omega (arith, carriers_le q.net.lines.now ms);
    }

listed_cons : (r : List ℕ) (rs : List (List ℕ)) → listed (r ∷ rs) ≡ length r ∷ (r ++ listed rs)
unfolding written
listed_cons r rs = ap (λ xs. length r ∷ (xs ++ listed rs)) (map-id r)

-- one route more: it stands at the end of the part of the store before the top, and its count is put before it
module _ (q : Pair) (ms ms' ms'' : List ℕ) (i : ℕ) (rs : List (List ℕ)) (store : List ℕ) (top : ℕ) (path : List ℕ) (start : ℕ)
    (drawn : Drawn q ms ms' i rs store top) (walked : Back q ms' ms'' q.a path start) (part : length path ≡ top) where
  pub drawn_room : i + length q.net.lines.now < length store → 0 < start
  drawn_room l = omega (arith, drawn.fewer, drawn.within, walked.fewer, walked.within)

  pub drawn_count : top - start ≤ length q.net.lines.now
  drawn_count = omega (arith, walked.fewer, carriers_le q.net.lines.now ms')

  stands : 0 < start → drop (start - 1) (set (path ++ drop top store) (start - 1) (top - start)) ≡ listed (drop start path ∷ rs)
  stands pos =
      let at : start - 1 + 1 ≡ start = omega arith in
      let room : start - 1 < length (path ++ drop top store) = simp length-append (omega (arith, walked.within)) in
      let count : length (drop start path) ≡ top - start = simp length-drop (omega arith) in
      drop-set (path ++ drop top store) (start - 1) (top - start) room
      ∙ ap (λ j. (top - start) ∷ drop j (path ++ drop top store)) at
      ∙ ap (λ xs. (top - start) ∷ xs) (drop-append-le start path (drop top store) walked.within ∙ ap (λ xs. drop start path ++ xs) drawn.stands)
      ∙ ap (λ n. n ∷ (drop start path ++ listed rs)) (sym count)
      ∙ sym (listed_cons (drop start path) rs)

  drawn_more : 0 < start → Drawn q ms ms'' (i + 1) (drop start path ∷ rs) (set (path ++ drop top store) (start - 1) (top - start)) (start - 1)
  drawn_more pos =
      let size : length (set (path ++ drop top store) (start - 1) (top - start)) ≡ length store =
      length-set (path ++ drop top store) (start - 1) (top - start) ∙ length-append path (drop top store) ∙ (let d = length-drop top store in omega (arith, drawn.within)) in
      record {
        many = omega (arith, drawn.many);
        stands = stands pos;
        within = omega (arith, walked.within, drawn.within);
        routes = every_cons (route q.net.lines.now q.a q.b) (drop start path) rs (route_from q.net.lines.now q.a q.b (drop start path) walked.led.chain walked.led.ends walked.led.simple) drawn.routes;
        apart = separate_cons (drop start path) rs
            (meets_none (carrying ms') (drop start path) rs (every_weaker (picked ms' ms'') (carrying ms') (drop start path) (picked_was ms' ms'') walked.led.each)
            (all_weaker (picked ms ms') (λ p. not (carrying ms' p)) rs (picked_not ms ms') drawn.out))
            drawn.apart;
        out = every_cons (every (picked ms ms'')) (drop start path) rs
            (every_weaker (picked ms' ms'') (picked ms ms'') (drop start path) (λ p. picked_wider ms ms' ms'' p drawn.kept) walked.led.each)
            (all_weaker (picked ms ms') (picked ms ms'') rs (λ p. picked_more ms ms' ms'' p walked.kept) drawn.out);
        kept = kept_trans ms ms' ms'' drawn.kept walked.kept;
        fewer = omega (arith, drawn.fewer, drawn.within, walked.fewer, walked.within);
      }

  -- .. as the code tells it: the part cut off at the top, the store after, and where it begins
  pub drawn_by : (cut : ℕ) (store' : List ℕ) (top' : ℕ) → top ≡ cut → 0 < start → store' ≡ set (path ++ drop cut store) (start - 1) (top - start) → top' ≡ start - 1
      → Drawn q ms ms'' (i + 1) (drop start path ∷ rs) store' top'
  drawn_by cut store' top' e pos after at =
      let whole : set (path ++ drop top store) (start - 1) (top - start) ≡ store' = ap (λ j. set (path ++ drop j store) (start - 1) (top - start)) e ∙ sym after in
      subst (λ t. Drawn q ms ms'' (i + 1) (drop start path ∷ rs) store' t) (sym at)
      (subst (λ xs. Drawn q ms ms'' (i + 1) (drop start path ∷ rs) xs (start - 1)) whole (drawn_more pos))

-- a unit to spend, of those that are supplied
pub to_spend : (ls : List Line) (ms : List ℕ) (a b v : ℕ) → 0 < v → Balanced ls ms a b v → Balanced ls ms a b (suc (v - 1))
to_spend ls ms a b v pos h = let e : v ≡ suc (v - 1) = omega arith in subst (λ u. Balanced ls ms a b u) e h

pub supplies_fewer : (q : Pair) (ms : List ℕ) (k j : ℕ) → j ≤ k → Supplies q ms k → Supplies q ms j
supplies_fewer q ms k j le h = record { room = h.room; most = h.most; enough = omega (arith, le, h.enough); balanced = h.balanced }

-- one fewer after the walk
pub supplies_after : (q : Pair) (ms ms' : List ℕ) (k : ℕ) (path : List ℕ) (start : ℕ) → 0 < k → length ms' ≡ length ms
    → Supplies q ms k → Back q ms ms' q.a path start → Supplies q ms' (k - 1)
supplies_after q ms ms' k path start pos same h walked =
    let v = h.most - 1 in
    record {
      room = omega (arith, h.room, same);
      most = v;
      enough = omega (arith, h.enough);
      balanced = underway_end q.net.lines.now ms' q.a q.b v (walked.underway v (to_spend q.net.lines.now ms q.a q.b h.most (omega (arith, pos, h.enough)) h.balanced));
    }
