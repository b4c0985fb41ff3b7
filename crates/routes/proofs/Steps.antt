-- The steps of the walk: one line taken out of the marks, and what is underway then.
use Rattle.std.proofs.Common.{◌≡◌, ℕ, suc, ◌+◌, ◌<◌, ◌≤◌, Bool, true, false, cond, not, eqb, ◌≢◌, List, length, drop, set, sym, refl, ap, ◌∙◌, subst, inl, inr, arith}
use Rattle.std.proofs.lemmas.Bool.{eq-eqb, ne_eqb, cases_eq, cases_Bool, both_ways, and_parts, and_from, not-true, not_from_false, cond-false}
use Rattle.std.proofs.lemmas.List.{drop_all, get_or-set_same, get_or-set_other}
use Rattle.std.proofs.lemmas.Bool.Decides.{nat_tests}
use Rattle.network.specs.declared.line.Line.{Line}
use Rattle.network.specs.declared.pair.Pair.{Pair}
use Rattle.network.specs.Lines.{line_at}
use Rattle.network.specs.Routes.{touches, other_end}
use Rattle.network.specs.Flow.{mark_at, one, leaves, arrives, outs, ins, Balanced}
use Rattle.network.proofs.Sums.{sum_marked_set, sum_marked_le}
use Rattle.routes.specs.Taking.{carrying}
use Rattle.routes.specs.Walks.{source_of, carriers, Way, picked, Kept, Underway, Back}
use Rattle.routes.proofs.Ways.{way_none, way_weaker}

-- a line that carries to c, and where it comes from
pub comes_carrying : (l : Line) (m c : ℕ) → arrives (eqb c) l m ≡ 1 → not (eqb m 0) ≡ true
comes_carrying l m c h = grind (arith, nat_tests)

pub comes_touching : (l : Line) (m c : ℕ) → arrives (eqb c) l m ≡ 1 → touches l (source_of l m) ≡ true
comes_touching l m c h = grind (arith, nat_tests)

pub comes_leading : (l : Line) (m c : ℕ) → l.first ≢ l.second → arrives (eqb c) l m ≡ 1 → other_end l (source_of l m) ≡ c
comes_leading l m c ne h = grind (arith, nat_tests)

-- it comes from its far end
pub far_is_source : (l : Line) (m c : ℕ) → l.first ≢ l.second → arrives (eqb c) l m ≡ 1 → other_end l c ≡ source_of l m
far_is_source l m c ne h = grind (arith, nat_tests)

leaves_source : (l : Line) (m c q : ℕ) → arrives (eqb c) l m ≡ 1 → leaves (eqb q) l m ≡ one (eqb q (source_of l m))
leaves_source l m c q h = grind (arith, nat_tests)

arrives_there : (l : Line) (m c q : ℕ) → arrives (eqb c) l m ≡ 1 → arrives (eqb q) l m ≡ one (eqb q c)
arrives_there l m c q h = grind (arith, nat_tests)

one_true : (t : Bool) → t ≡ true → one t ≡ 1
one_true t e = rw e

-- taking out a line that carries
pub carriers_set : (ls : List Line) (ms : List ℕ) (p : ℕ) → p < length ls → p < length ms → carrying ms p ≡ true → carriers ls ms ≡ suc (carriers ls (set ms p 0))
unfolding carriers
carriers_set ls ms p l g h =
    omega (arith, sum_marked_set (λ l m. one (not (eqb m 0))) ls ms p 0 l g, one_true (carrying ms p) h)

one_le : (t : Bool) → one t ≤ 1
one_le true = omega arith
one_le false = omega arith

pub carriers_le : (ls : List Line) (ms : List ℕ) → carriers ls ms ≤ length ls
unfolding carriers
carriers_le ls ms = sum_marked_le (λ l m. one (not (eqb m 0))) ls ms (λ l m. one_le (not (eqb m 0)))

carrying_set : (ms : List ℕ) (p : ℕ) → p < length ms → carrying (set ms p 0) p ≡ false
carrying_set ms p l = rw (get_or-set_same ms p 0 0 l)

pub kept_set : (ms : List ℕ) (p : ℕ) → p < length ms → Kept ms (set ms p 0)
kept_set ms p l q h =
    elim (cases_eq q p) [
      | inl e ↦ absurd (both_ways (carrying (set ms p 0) q) (ap (carrying (set ms p 0)) e ∙ carrying_set ms p l) h)
      | inr ne ↦ sym (ap (λ m. not (eqb m 0)) (get_or-set_other ms p q 0 0 ne)) ∙ h
    ]

pub kept_trans : (ms ms' ms'' : List ℕ) → Kept ms ms' → Kept ms' ms'' → Kept ms ms''
kept_trans ms ms' ms'' h g p e = h p (g p e)

-- what is not carrying stays so
pub kept_not : (ms ms' : List ℕ) (p : ℕ) → Kept ms ms' → not (carrying ms p) ≡ true → not (carrying ms' p) ≡ true
kept_not ms ms' p h e =
    elim (cases_Bool (carrying ms' p)) [
      | inl c ↦ absurd (both_ways (carrying ms p) (not-true (carrying ms p) e) (h p c))
      | inr n ↦ not_from_false (carrying ms' p) n
    ]

pub picked_more : (ms ms' ms'' : List ℕ) (p : ℕ) → Kept ms' ms'' → picked ms ms' p ≡ true → picked ms ms'' p ≡ true
picked_more ms ms' ms'' p h e =
    let parts = and_parts (carrying ms p) (not (carrying ms' p)) e in
    and_from (carrying ms p) (not (carrying ms'' p)) parts.0 (kept_not ms' ms'' p h parts.1)

picked_set : (ms ms' : List ℕ) (p : ℕ) → Kept ms ms' → p < length ms' → carrying ms' p ≡ true → picked ms (set ms' p 0) p ≡ true
picked_set ms ms' p h l e =
    and_from (carrying ms p) (not (carrying (set ms' p 0) p)) (h p e) (not_from_false (carrying (set ms' p 0) p) (carrying_set ms' p l))

cond_suc : (t : Bool) (v : ℕ) → cond t (suc v) 0 ≡ one t + cond t v 0
cond_suc true v = omega arith
cond_suc false v = refl

-- one unit underway to b, as the walk begins; and come to a, as it ends
underway_start : (ls : List Line) (ms : List ℕ) (a b v : ℕ) → Balanced ls ms a b (suc v) → Underway ls ms a b b v
underway_start ls ms a b v h p = omega (arith, h p, cond_suc (eqb p b) v)

pub underway_end : (ls : List Line) (ms : List ℕ) (a b v : ℕ) → Underway ls ms a b a v → Balanced ls ms a b v
underway_end ls ms a b v h p = omega (arith, h p, cond_suc (eqb p a) v)

underway_set : (ls : List Line) (ms : List ℕ) (a b c v p : ℕ) → p < length ls → p < length ms → arrives (eqb c) (line_at ls p) (mark_at ms p) ≡ 1
    → Underway ls ms a b c v → Underway ls (set ms p 0) a b (source_of (line_at ls p) (mark_at ms p)) v
unfolding outs ins
underway_set ls ms a b c v p l g e h q =
    omega (
      arith,
      h q,
      sum_marked_set (leaves (eqb q)) ls ms p 0 l g,
      sum_marked_set (arrives (eqb q)) ls ms p 0 l g,
      leaves_source (line_at ls p) (mark_at ms p) c q e,
      arrives_there (line_at ls p) (mark_at ms p) c q e,
    )

-- before the walk is at a, some line carries to where it is
pub underway_comes : (ls : List Line) (ms : List ℕ) (a b c v : ℕ) → c ≢ a → Underway ls ms a b c v → 0 < ins (eqb c) ls ms
underway_comes ls ms a b c v ne h =
    omega (arith, h c, one_true (eqb c c) (eq-eqb c c refl), cond-false (eqb c a) (suc v) 0 (ne_eqb c a ne))

pub back_start : (q : Pair) (ms : List ℕ) (path : List ℕ) → Back q ms ms q.b path (length path)
back_start q ms path =
    record {
      within = omega arith;
      led = subst (λ r. Way q.net.lines.now (picked ms ms) q.b q.b r) (sym (drop_all (length path) path (omega arith))) (way_none q.net.lines.now (picked ms ms) q.b);
      kept = λ p e. e;
      fewer = omega arith;
      underway = underway_start q.net.lines.now ms q.a q.b;
    }

module _ (q : Pair) (ms ms' : List ℕ) (c p : ℕ) (path : List ℕ) (top : ℕ) (inside : p < length q.net.lines.now) (room : length q.net.lines.now ≤ length ms')
    (comes : arrives (eqb c) (line_at q.net.lines.now p) (mark_at ms' p) ≡ 1) (back : Back q ms ms' c path top) where
  pub step_fewer : carriers q.net.lines.now ms' ≡ suc (carriers q.net.lines.now (set ms' p 0))
  step_fewer = carriers_set q.net.lines.now ms' p inside (omega arith) (comes_carrying (line_at q.net.lines.now p) (mark_at ms' p) c comes)

  pub step_back : (path' : List ℕ) (top' : ℕ) → length path' ≡ length path → top' ≤ length path → top ≤ suc top'
      → ((Q : ℕ → Bool) (y : ℕ) → Q p ≡ true → Way q.net.lines.now Q c y (drop top path) → Way q.net.lines.now Q (source_of (line_at q.net.lines.now p) (mark_at ms' p)) y (drop top' path'))
      → Back q ms (set ms' p 0) (source_of (line_at q.net.lines.now p) (mark_at ms' p)) path' top'
  step_back path' top' same within longer led =
      let g : p < length ms' = omega arith in
      record {
        within = omega arith;
        led = led (picked ms (set ms' p 0)) q.b (picked_set ms ms' p back.kept g (comes_carrying (line_at q.net.lines.now p) (mark_at ms' p) c comes))
            (way_weaker q.net.lines.now (picked ms ms') (picked ms (set ms' p 0)) c q.b (drop top path) (λ j. picked_more ms ms' (set ms' p 0) j (kept_set ms' p g)) back.led);
        kept = kept_trans ms ms' (set ms' p 0) back.kept (kept_set ms' p g);
        fewer = omega (arith, back.fewer, back.within, step_fewer);
        underway = λ v h. underway_set q.net.lines.now ms' q.a q.b c v p inside g comes (back.underway v h);
      }
