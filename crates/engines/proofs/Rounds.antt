-- The rounds of a search.
use Rattle.std.proofs.Common.{◌≡◌, ℕ, ◌+◌, ◌<◌, ◌≤◌, Bool, true, false, cond, ◌&&◌, ◌||◌, eqb, ◌⊎◌, List, length, set, sym, refl, ap, ◌∙◌, subst, inl, inr, arith}
use Rattle.std.proofs.lemmas.List.Sums.{sum_by-set}
use Rattle.std.proofs.lemmas.List.{length-set, get_or-set_same, get_or-set_other}
use Rattle.std.proofs.lemmas.Bool.{cases_eq, cases_Bool, eqb-true, and_parts, eq-eqb, ne_eqb, cond-true, cond-false, true≢false}
use Rattle.std.proofs.lemmas.Bool.Decides.{nat_tests}
use Rattle.network.specs.declared.line.Line.{Line}
use Rattle.network.specs.declared.engine.SiteWork.{SiteWork}
use Rattle.network.specs.Lines.{line_at, AllJoin}
use Rattle.engines.specs.Arcs.{tail, head, arc}
use Rattle.engines.specs.Search.{no_site, site_at, seen_at, parent_at, unseen, Step, Rooted, Round, reaches, adds_up, noted, seen_after}
use Rattle.engines.proofs.Arcs.{head_below, joins_at}

-- a step whose line goes by another name
pub step_by : (ls : List Line) (ms : List ℕ) (ws : List SiteWork) (q k : ℕ) (e : Bool) → parent_at ws q ≡ k → k < length ls →
    head (line_at ls k) e ≡ q → arc ls ms k e ≡ true → 0 < seen_at ws (tail (line_at ls k) e) →
    seen_at ws (tail (line_at ls k) e) < seen_at ws q → Step ls ms ws q
step_by ls ms ws q k e is a b t u v =
    record { way = e; listed = rw is a; ends = rw is b; takes = rw is t; from_seen = rw is u; falls = rw is v }

-- the place q comes to the layer d + 1 by the line k, and of every other place the record stays
record Grown (ws ws' : List SiteWork) (q k d : ℕ) : Type 0 where
  size : length ws' ≡ length ws
  same : (x : ℕ) → (x ≡ q → ⊥) → site_at ws' x ≡ site_at ws x
  layer : seen_at ws' q ≡ d + 1
  line_is : parent_at ws' q ≡ k
  fewer : unseen ws' + 1 ≡ unseen ws

grown : (ws : List SiteWork) (q k d : ℕ) → q < length ws → seen_at ws q ≡ 0 → Grown ws (set ws q (noted k (d + 1) (site_at ws q))) q k d
grown ws q k d h z =
    let new = noted k (d + 1) (site_at ws q) in
    let at : site_at (set ws q new) q ≡ new = get_or-set_same ws q new no_site h in
    record {
      size = length-set ws q new;
      same = λ x ne. get_or-set_other ws q x new no_site ne;
      layer = ap (λ (w : SiteWork). w.seen) at;
      line_is = ap (λ (w : SiteWork). w.parent) at;
      fewer =
          let f : SiteWork → ℕ = λ w. cond (eqb w.seen 0) 1 0 in
          let was : f (site_at ws q) ≡ 1 = cond-true (eqb (seen_at ws q) 0) 1 0 (eq-eqb (seen_at ws q) 0 z) in
          let is : f new ≡ 0 = cond-false (eqb (d + 1) 0) 1 0 (ne_eqb (d + 1) 0 (λ e. omega arith)) in
          omega (arith, sum_by-set f ws q new no_site h);
    }

-- the arc (k, e) has been tried, and has reached its far end or not
abbrev pub Reached : List Line → List ℕ → ℕ → List SiteWork → List SiteWork → Bool → ℕ → Bool → Type 0
Reached ls ms d ws ws' hit k e = (hit ≡ reaches ls ms d k e ws) × (ws' ≡ seen_after ls d k e ws hit)

-- the arcs tried so far, and one more
abbrev And : (ℕ → Bool → Type 0) → ℕ → Bool → ℕ → Bool → Type 0
And Done i e k t = Done k t ⊎ ((k ≡ i) × (t ≡ e))

module _ (ls : List Line) (ms : List ℕ) (a d : ℕ) where
  pub round_weaken : (found : Bool) (Done Fewer : ℕ → Bool → Type 0) (ws : List SiteWork) → ((k : ℕ) (e : Bool) → Fewer k e → Done k e) →
      Round ls ms a d found Done ws → Round ls ms a d found Fewer ws
  round_weaken found Done Fewer ws weaker r =
      record { started = r.started; root = r.root; tree = r.tree; top = r.top; below = r.below; here = λ k e m. r.here k e (weaker k e m); quiet = r.quiet; room = r.room }

  -- the arc (i, e) sees nothing new
  round_miss : (found : Bool) (Done : ℕ → Bool → Type 0) (ws : List SiteWork) (i : ℕ) (e : Bool) → Round ls ms a d found Done ws →
      reaches ls ms d i e ws ≡ false → Round ls ms a d found (And Done i e) ws
  round_miss found Done ws i e r no' =
      record {
        started = r.started;
        root = r.root;
        tree = r.tree;
        top = r.top;
        below = r.below;
        here = λ k t done at takes. elim done [ inl old ↦ r.here k t old at takes | inr new ↦ missed k t new.0 new.1 at takes ];
        quiet = r.quiet;
        room = r.room;
      }
    where
      missed : (k : ℕ) (t : Bool) → k ≡ i → t ≡ e → seen_at ws (tail (line_at ls k) t) ≡ d → arc ls ms k t ≡ true → 0 < seen_at ws (head (line_at ls k) t)
      missed k t ki te at takes = grind (arith, nat_tests)

  -- it sees its far end
  module _ (found : Bool) (Done : ℕ → Bool → Type 0) (ws ws' : List SiteWork) (i : ℕ) (e : Bool) (inside : i < length ls)
      (r : Round ls ms a d found Done ws) (near : seen_at ws (tail (line_at ls i) e) ≡ d) (takes : arc ls ms i e ≡ true)
      (g : Grown ws ws' (head (line_at ls i) e) i d) (far : seen_at ws (head (line_at ls i) e) ≡ 0) where
    kept : (x : ℕ) → 0 < seen_at ws x → seen_at ws' x ≡ seen_at ws x
    kept x h = ap (λ (w : SiteWork). w.seen) (g.same x (λ eq. omega (arith, ap (seen_at ws) eq)))

    more : (x : ℕ) → 0 < seen_at ws x → 0 < seen_at ws' x
    more x h = omega (arith, kept x h)

    old : (x : ℕ) → seen_at ws' x ≤ d → seen_at ws x ≡ seen_at ws' x
    old x h = sym (ap (λ (w : SiteWork). w.seen) (g.same x (λ eq. omega (arith, ap (seen_at ws') eq, g.layer))))

    new_step : Step ls ms ws' (head (line_at ls i) e)
    new_step =
        let near' : seen_at ws' (tail (line_at ls i) e) ≡ d = kept (tail (line_at ls i) e) (omega (arith, r.started)) ∙ near in
        step_by ls ms ws' (head (line_at ls i) e) i e g.line_is inside refl takes (omega (arith, r.started)) (omega (arith, g.layer))

    old_step : (q : ℕ) → q < length ws' → 0 < seen_at ws' q → site_at ws' q ≡ site_at ws q → Rooted ls ms ws' a q
    old_step q h lit same =
        let lev : seen_at ws' q ≡ seen_at ws q = ap (λ (w : SiteWork). w.seen) same in
        elim (r.tree q (omega (arith, g.size)) (omega arith)) [
          | inl root ↦ inl root
          | inr s ↦
              let from = tail (line_at ls (parent_at ws q)) s.way in
              inr (step_by ls ms ws' q (parent_at ws q) s.way (ap (λ (w : SiteWork). w.parent) same) s.listed s.ends s.takes
              (more from s.from_seen) (omega (arith, kept from s.from_seen, s.falls)))
        ]

    round_hit : Round ls ms a d true (And Done i e) ws'
    round_hit =
        record {
          started = r.started;
          root = kept a (omega (arith, r.root)) ∙ r.root;
          tree = λ q h lit. elim (cases_eq q (head (line_at ls i) e)) [
            | inl eq ↦ inr (subst (λ (y : ℕ). Step ls ms ws' y) (sym eq) new_step)
            | inr ne ↦ old_step q h lit (g.same q ne)
          ];
          top = λ q. elim (cases_eq q (head (line_at ls i) e)) [
            | inl eq ↦ omega (arith, ap (seen_at ws') eq, g.layer)
            | inr ne ↦ omega (arith, ap (λ (w : SiteWork). w.seen) (g.same q ne), r.top q)
          ];
          below = λ k t lt lit under tk.
              let was = old (tail (line_at ls k) t) (omega arith) in
              more (head (line_at ls k) t) (r.below k t lt (omega arith) (omega arith) tk);
          here = λ k t done at tk. elim done [
            | inl before ↦
                let was = old (tail (line_at ls k) t) (omega arith) in
                more (head (line_at ls k) t) (r.here k t before (was ∙ at) tk)
            | inr new ↦
                let there : head (line_at ls k) t ≡ head (line_at ls i) e = let ki = new.0 in let te = new.1 in cc in
                omega (arith, ap (seen_at ws') there, g.layer)
          ];
          quiet = λ bad. absurd (true≢false bad);
          room = omega (arith, g.fewer, g.size, r.room);
        }

  -- either way, as the code has it
  round_reach : (found : Bool) (Done : ℕ → Bool → Type 0) (ws ws' : List SiteWork) (i : ℕ) (e hit : Bool) → i < length ls → AllJoin (length ws) ls →
      Round ls ms a d found Done ws → hit ≡ reaches ls ms d i e ws →
      ws' ≡ seen_after ls d i e ws hit →
      Round ls ms a d (found || hit) (And Done i e) ws'
  round_reach found Done ws ws' i e true inside joins r is after =
      let h = head (line_at ls i) e in
      let parts = and_parts (eqb (seen_at ws (tail (line_at ls i) e)) d) (eqb (seen_at ws h) 0 && arc ls ms i e) (sym is) in
      let rest = and_parts (eqb (seen_at ws h) 0) (arc ls ms i e) parts.1 in
      let far : seen_at ws h ≡ 0 = eqb-true (seen_at ws h) 0 rest.0 in
      let found_is : (found || true) ≡ true = grind (arith, nat_tests) in
      subst (λ (x : Bool). Round ls ms a d x (And Done i e) ws') (sym found_is)
      (round_hit found Done ws ws' i e inside r (eqb-true (seen_at ws (tail (line_at ls i) e)) d parts.0) rest.1
      (subst (λ (x : List SiteWork). Grown ws x h i d) (sym after) (grown ws h i d (head_below (length ws) (line_at ls i) e (joins i inside)) far)) far)
  round_reach found Done ws ws' i e false inside joins r is after =
      let found_is : (found || false) ≡ found = grind (arith, nat_tests) in
      subst (λ (x : Bool). Round ls ms a d x (And Done i e) ws') (sym found_is)
      (subst (λ (x : List SiteWork). Round ls ms a d found (And Done i e) x) (sym after) (round_miss found Done ws i e r (sym is)))

  -- both arcs of the line i
  pub round_line : (found : Bool) (ws ws₁ ws₂ : List SiteWork) (i : ℕ) (forth back : Bool) → i < length ls → AllJoin (length ws) ls → length ws₁ ≡ length ws →
      Round ls ms a d found (λ k _. k < i) ws → Reached ls ms d ws ws₁ forth i true → Reached ls ms d ws₁ ws₂ back i false →
      Round ls ms a d ((found || forth) || back) (λ k _. k < i + 1) ws₂
  round_line found ws ws₁ ws₂ i forth back inside joins size r f b =
      let Before : ℕ → Bool → Type 0 = λ k _. k < i in
      round_weaken ((found || forth) || back) (And (And Before i true) i false) (λ k _. k < i + 1) ws₂
      (λ k t lt. elim (cases_eq k i) [
        | inl eq ↦ elim (cases_Bool t) [ inl y ↦ inl (inr (eq, y)) | inr n ↦ inr (eq, n) ]
        | inr ne ↦ inl (inl (omega arith))
      ])
      (round_reach (found || forth) (And Before i true) ws₁ ws₂ i false back inside (joins_at (length ws) (length ws₁) ls size joins)
      (round_reach found Before ws ws₁ i true forth inside joins r f.0 f.1) b.0 b.1)

  -- where neither arc has reached anything, nor one before, the records are as they were
  pub round_idle : (found forth back : Bool) (ws₀ ws ws₁ ws₂ : List SiteWork) (i : ℕ) → ((found || forth) || back) ≡ false →
      (found ≡ false → ws ≡ ws₀) → Reached ls ms d ws ws₁ forth i true → Reached ls ms d ws₁ ws₂ back i false → ws₂ ≡ ws₀
  round_idle false false false ws₀ ws ws₁ ws₂ i off old f b = b.1 ∙ f.1 ∙ old refl
  round_idle false false true ws₀ ws ws₁ ws₂ i off old f b = absurd (true≢false off)
  round_idle false true back ws₀ ws ws₁ ws₂ i off old f b = absurd (true≢false off)
  round_idle true forth back ws₀ ws ws₁ ws₂ i off old f b = absurd (true≢false off)

  -- the same round by other names
  pub round_as : (found found' : Bool) (Done : ℕ → Bool → Type 0) (ws ws' : List SiteWork) → found' ≡ found → ws' ≡ ws →
      Round ls ms a d found Done ws → Round ls ms a d found' Done ws'
  round_as found found' Done ws ws' f w r =
      subst (λ (x : Bool). Round ls ms a d x Done ws') (sym f) (subst (λ (x : List SiteWork). Round ls ms a d found Done x) (sym w) r)

  -- a line whose layers do not add up reaches nothing
  no_reach : (ws : List SiteWork) (i : ℕ) (e : Bool) → adds_up d (line_at ls i) ws ≡ false → reaches ls ms d i e ws ≡ false
  no_reach ws i true off = grind (arith, nat_tests)
  no_reach ws i false off = grind (arith, nat_tests)

  pub round_pass : (found t : Bool) (ws : List SiteWork) (i : ℕ) → i < length ls → AllJoin (length ws) ls →
      Round ls ms a d found (λ k _. k < i) ws → t ≡ adds_up d (line_at ls i) ws → t ≡ false → Round ls ms a d found (λ k _. k < i + 1) ws
  round_pass found t ws i inside joins r is off =
      let found_is : ((found || false) || false) ≡ found = grind (arith, nat_tests) in
      let none = no_reach ws i in
      subst (λ (x : Bool). Round ls ms a d x (λ k _. k < i + 1) ws) found_is
      (round_line found ws ws ws i false false inside joins refl r (sym (none true (sym is ∙ off)), refl) (sym (none false (sym is ∙ off)), refl))
