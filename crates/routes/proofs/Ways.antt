-- Chains that grow and shrink at their front.
use Rattle.std.proofs.Common.{◌≡◌, ℕ, ◌+◌, ◌-◌, ◌<◌, ◌≤◌, Bool, true, false, ◌≢◌, List, [], ◌∷◌, length, get_or, drop, set, Some, None, Option, sym, ap, ◌∙◌, subst, arith, MatchOption}
use Rattle.std.proofs.lemmas.List.{drop_more, drop_all, drop-drop, drop-set, drop-set-lt}
use Rattle.network.specs.declared.line.Line.{Line}
use Rattle.network.specs.Lines.{line_at}
use Rattle.network.specs.Lists.{among, distinct}
use Rattle.network.specs.Routes.{touches, other_end, chained, stops, end_of}
use Rattle.network.proofs.Chains.{chained_none, chained_cons, chained_parts, end_of_none, end_of_cons, stops_none, stops_cons}
use Rattle.network.proofs.Lists.{among_nil, among_skip, every_weaker, every_cons, every_parts, every_none, distinct_cons, distinct_parts, distinct_none}
use Rattle.routes.specs.Walks.{Way}

module _ (ls : List Line) where
  -- the empty chain
  pub way_none : (Q : ℕ → Bool) (b : ℕ) → Way ls Q b b []
  way_none Q b =
      record {
        chain = chained_none ls b;
        ends = end_of_none ls b;
        simple = ap (λ ys. distinct (b ∷ ys)) (stops_none ls b) ∙ distinct_cons b [] (among_nil b) distinct_none;
        each = every_none Q;
      }

  -- one line more at the front, from a place that the chain does not pass
  pub way_more : (Q : ℕ → Bool) (x c b p : ℕ) (r : List ℕ) → p < length ls → touches (line_at ls p) x ≡ true → other_end (line_at ls p) x ≡ c
      → Q p ≡ true → among (c ∷ stops ls c r) x ≡ false → Way ls Q c b r → Way ls Q x b (p ∷ r)
  way_more Q x c b p r l t e q new w =
      record {
        chain = chained_cons ls x p r l t (ap (λ y. chained ls y r) e ∙ w.chain);
        ends = end_of_cons ls x p r ∙ ap (λ y. end_of ls y r) e ∙ w.ends;
        simple = ap (λ ys. distinct (x ∷ ys)) (stops_cons ls x p r) ∙ ap (λ y. distinct (x ∷ y ∷ stops ls y r)) e
            ∙ distinct_cons x (c ∷ stops ls c r) new w.simple;
        each = every_cons Q p r q w.each;
      }

  -- one line fewer
  pub way_rest : (Q : ℕ → Bool) (x b p : ℕ) (r : List ℕ) → Way ls Q x b (p ∷ r) → Way ls Q (other_end (line_at ls p) x) b r
  way_rest Q x b p r w =
      record {
        chain = (chained_parts ls x p r w.chain).2;
        ends = sym (end_of_cons ls x p r) ∙ w.ends;
        simple = ap distinct (sym (stops_cons ls x p r)) ∙ (distinct_parts x (stops ls x (p ∷ r)) w.simple).1;
        each = (every_parts Q p r w.each).1;
      }

  pub way_weaker : (Q Q' : ℕ → Bool) (x b : ℕ) (r : List ℕ) → ((p : ℕ) → Q p ≡ true → Q' p ≡ true) → Way ls Q x b r → Way ls Q' x b r
  way_weaker Q Q' x b r h w =
      record { chain = w.chain; ends = w.ends; simple = w.simple; each = every_weaker Q Q' r h w.each }

  -- what is known where a scan of the chain from s has come to its part r, which leads from x, and has not met c
  pub record Scanned (s c : ℕ) (whole : List ℕ) (x : ℕ) (r : List ℕ) : Type 0 where
    pub linked : chained ls x r ≡ true
    pub part : (Q : ℕ → Bool) (b : ℕ) → Way ls Q s b whole → Way ls Q x b r
    pub unmet : among (s ∷ stops ls s whole) c ≡ among (x ∷ stops ls x r) c

  pub scanned_more : (s c : ℕ) (whole : List ℕ) (x p : ℕ) (r : List ℕ) → x ≢ c → Scanned s c whole x (p ∷ r) → Scanned s c whole (other_end (line_at ls p) x) r
  scanned_more s c whole x p r ne h =
      record {
        linked = (chained_parts ls x p r h.linked).2;
        part = λ Q b w. way_rest Q x b p r (h.part Q b w);
        unmet = h.unmet ∙ among_skip x c (stops ls x (p ∷ r)) ne ∙ ap (λ ys. among ys c) (stops_cons ls x p r);
      }

  -- .. and at its end
  pub scanned_none : (s c : ℕ) (whole : List ℕ) (x : ℕ) → x ≢ c → Scanned s c whole x [] → among (s ∷ stops ls s whole) c ≡ false
  scanned_none s c whole x ne h = h.unmet ∙ among_skip x c (stops ls x []) ne ∙ ap (λ ys. among ys c) (stops_none ls x) ∙ among_nil c

  -- the same over what stands in a path from the position i on
  pub scan_inside : (s c : ℕ) (whole : List ℕ) (x : ℕ) (path : List ℕ) (i : ℕ) → i < length path → Scanned s c whole x (drop i path) → get_or path i 0 < length ls
  scan_inside s c whole x path i l h =
      (chained_parts ls x (get_or path i 0) (drop (i + 1) path) (subst (λ r. chained ls x r ≡ true) (drop_more path i 0 l) h.linked)).0

  pub scan_more : (s c : ℕ) (whole : List ℕ) (x y : ℕ) (path : List ℕ) (i : ℕ) → i < length path → x ≢ c → y ≡ other_end (line_at ls (get_or path i 0)) x
      → Scanned s c whole x (drop i path) → Scanned s c whole y (drop (i + 1) path)
  scan_more s c whole x y path i l ne e h =
      subst (λ z. Scanned s c whole z (drop (i + 1) path)) (sym e)
      (scanned_more s c whole x (get_or path i 0) (drop (i + 1) path) ne (subst (λ r. Scanned s c whole x r) (drop_more path i 0 l) h))

  pub scan_met : (s c : ℕ) (whole : List ℕ) (x : ℕ) (r : List ℕ) → x ≡ c → Scanned s c whole x r → (Q : ℕ → Bool) (b : ℕ) → Way ls Q s b whole → Way ls Q c b r
  scan_met s c whole x r e h Q b w = subst (λ z. Way ls Q z b r) e (h.part Q b w)

  pub scan_none : (s c : ℕ) (whole : List ℕ) (x : ℕ) (path : List ℕ) (i : ℕ) → length path ≤ i → x ≢ c → Scanned s c whole x (drop i path) → among (s ∷ stops ls s whole) c ≡ false
  scan_none s c whole x path i l ne h = scanned_none s c whole x ne (subst (λ r. Scanned s c whole x r) (drop_all i path l) h)

  -- a line put before what stands in a path from the top on
  pub way_put : (Q : ℕ → Bool) (x c b p : ℕ) (path : List ℕ) (top : ℕ) → 0 < top → top ≤ length path → p < length ls → touches (line_at ls p) x ≡ true
      → other_end (line_at ls p) x ≡ c → Q p ≡ true → among (c ∷ stops ls c (drop top path)) x ≡ false → Way ls Q c b (drop top path)
      → Way ls Q x b (drop (top - 1) (set path (top - 1) p))
  way_put Q x c b p path top pos within l t e q new w =
      let at : top - 1 + 1 ≡ top = omega arith in
      subst (λ r. Way ls Q x b r) (sym (drop-set path (top - 1) p (omega arith) ∙ ap (λ i. p ∷ drop i path) at)) (way_more Q x c b p (drop top path) l t e q new w)

  -- .. and the loop left out, where the chain met the new place already
  pub way_extended : (x c p : ℕ) (path chain : List ℕ) (top r : ℕ) (stop : Option ℕ) → chain ≡ drop top path → 0 < top → top ≤ length path
      → p < length ls → touches (line_at ls p) x ≡ true → other_end (line_at ls p) x ≡ c
      → MatchOption stop (among (c ∷ stops ls c chain) x ≡ false)
      (λ i. (i ≤ length chain) × ((Q : ℕ → Bool) (b : ℕ) → Way ls Q c b chain → Way ls Q x b (drop i chain)))
      → MatchOption stop (r ≡ top - 1) (λ i. r ≡ top + i)
      → (Q : ℕ → Bool) (b : ℕ) → Q p ≡ true → Way ls Q c b (drop top path) → Way ls Q x b (drop r (set path (top - 1) p))
  way_extended x c p path chain top r None is pos within l t e met at Q b q w =
      subst (λ j. Way ls Q x b (drop j (set path (top - 1) p))) (sym at)
      (way_put Q x c b p path top pos within l t e q (ap (λ ys. among (c ∷ stops ls c ys) x) (sym is) ∙ met) w)
  way_extended x c p path chain top r (Some i) is pos within l t e met at Q b q w =
      subst (λ ys. Way ls Q x b ys)
      (ap (drop i) is ∙ drop-drop i top path ∙ ap (λ j. drop j path) (sym at) ∙ sym (drop-set-lt r path (top - 1) p (omega (arith, at))))
      (met.1 Q b (subst (λ ys. Way ls Q c b ys) (sym is) w))
