-- Two tables of the same lines, which may be in other states: the same chains are routes, and they are written alike.
use Rattle.std.proofs.Common.{◌≡◌, ℕ, ◌<◌, Bool, true, false, cond, ◌&&◌, ◌||◌, eqb, ltb, List, [], ◌∷◌, ◌++◌, map, length, sym, refl, ap, ◌∙◌, ap₂, inl, inr, arith}
use Rattle.std.proofs.lemmas.List.{get_or_past}
use Rattle.std.proofs.lemmas.Bool.{cases_lt}
use Rattle.network.specs.declared.line.Line.{Line}
use Rattle.network.specs.declared.line.LineState.{LineState}
use Rattle.network.specs.Lines.{line_at, no_line, AllJoin}
use Rattle.network.specs.Lists.{distinct, every}
use Rattle.network.specs.Routes.{touches, other_end, chained, stops, end_of, route, written, number_at, encoded, SeparateRoutes}
use Rattle.book.specs.Ledger.{with_state}

-- one line, but for its state
pub record AlikeLine (l m : Line) : Type 0 where
  pub number : l.number ≡ m.number
  pub first : l.first ≡ m.first
  pub second : l.second ≡ m.second

pub record Alike (ls ms : List Line) : Type 0 where
  pub size : length ls ≡ length ms
  pub line : (p : ℕ) → AlikeLine (line_at ls p) (line_at ms p)

pub alike_line_trans : {l m n : Line} → AlikeLine l m → AlikeLine m n → AlikeLine l n
alike_line_trans a b = record { number = a.number ∙ b.number; first = a.first ∙ b.first; second = a.second ∙ b.second }

-- another state changes nothing else
pub alike_cond : (t : Bool) (s : LineState) (l : Line) → AlikeLine (cond t (with_state s l) l) l
alike_cond true s l = record { number = refl; first = refl; second = refl }
alike_cond false s l = record { number = refl; first = refl; second = refl }

pub alike_trans : {ls ms ns : List Line} → Alike ls ms → Alike ms ns → Alike ls ns
alike_trans a b = record { size = a.size ∙ b.size; line = λ p. alike_line_trans (a.line p) (b.line p) }

same_line : {l m : Line} → l ≡ m → AlikeLine l m
same_line e = record { number = ap (λ (x : Line). x.number) e; first = ap (λ (x : Line). x.first) e; second = ap (λ (x : Line). x.second) e }

pub same_lines : {ls ms : List Line} → ls ≡ ms → Alike ls ms
same_lines e = record { size = ap length e; line = λ p. same_line (ap (λ (ls : List Line). line_at ls p) e) }

-- a table of which some lines get another state
pub alike_changed : (ls ls' : List Line) (t : ℕ → Bool) (s : LineState) → length ls' ≡ length ls
    → ((p : ℕ) → p < length ls → line_at ls' p ≡ cond (t p) (with_state s (line_at ls p)) (line_at ls p)) → Alike ls' ls
alike_changed ls ls' t s size line =
    record {
      size = size;
      line = λ p. elim (cases_lt p (length ls)) [
        | inl l ↦ alike_line_trans (same_line (line p l)) (alike_cond (t p) s (line_at ls p))
        | inr l ↦ same_line (get_or_past ls' p no_line (omega (arith, size)) ∙ sym (get_or_past ls p no_line l))
      ];
    }

pub with_own_state : (l m : Line) → AlikeLine l m → with_state l.state m ≡ l
with_own_state l m a =
    ap (λ (z : ℕ). record { number = z; first = m.first; second = m.second; state = l.state }) (sym a.number)
    ∙ ap (λ (z : ℕ). record { number = l.number; first = z; second = m.second; state = l.state }) (sym a.first)
    ∙ ap (λ (z : ℕ). record { number = l.number; first = l.first; second = z; state = l.state }) (sym a.second)

written_same : (f g : ℕ → ℕ) → ((p : ℕ) → f p ≡ g p) → (rs : List (List ℕ)) → written f rs ≡ written g rs
unfolding written
written_same f g h [] = refl
written_same f g h (r ∷ rs) = ap₂ {C = List ℕ} (λ x y. length r ∷ (x ++ y)) (each r) (written_same f g h rs)
  where
    each : (r : List ℕ) → map f r ≡ map g r
    each [] = refl
    each (p ∷ r) = ap₂ {C = List ℕ} (λ x y. x ∷ y) (h p) (each r)

every_same : {X : Type 0} (P Q : X → Bool) → ((x : X) → P x ≡ Q x) → (xs : List X) → every P xs ≡ every Q xs
unfolding every
every_same P Q h [] = refl
every_same P Q h (x ∷ xs) = ap₂ {C = Bool} (λ s t. s && t) (h x) (every_same P Q h xs)

module _ (ls ms : List Line) (same : Alike ls ms) where
  pub encoded_alike : (rs : List (List ℕ)) → encoded ls rs ≡ encoded ms rs
  encoded_alike rs = written_same (number_at ls) (number_at ms) (λ p. (same.line p).number) rs

  touches_alike : (p x : ℕ) → touches (line_at ls p) x ≡ touches (line_at ms p) x
  touches_alike p x = ap₂ {C = Bool} (λ s t. eqb s x || eqb t x) (same.line p).first (same.line p).second

  other_end_alike : (p x : ℕ) → other_end (line_at ls p) x ≡ other_end (line_at ms p) x
  other_end_alike p x = ap₂ {C = ℕ} (λ s t. cond (eqb s x) t s) (same.line p).first (same.line p).second

  chained_alike : (x : ℕ) (r : List ℕ) → chained ls x r ≡ chained ms x r
  unfolding chained
  chained_alike x [] = refl
  chained_alike x (p ∷ r) =
      ap₂ {C = Bool} (λ s t. s && t) (ap (ltb p) same.size)
      (ap₂ {C = Bool} (λ s t. s && t) (touches_alike p x)
      (ap (λ (y : ℕ). chained ls y r) (other_end_alike p x) ∙ chained_alike (other_end (line_at ms p) x) r))

  end_of_alike : (x : ℕ) (r : List ℕ) → end_of ls x r ≡ end_of ms x r
  unfolding end_of
  end_of_alike x [] = refl
  end_of_alike x (p ∷ r) = ap (λ (y : ℕ). end_of ls y r) (other_end_alike p x) ∙ end_of_alike (other_end (line_at ms p) x) r

  stops_alike : (x : ℕ) (r : List ℕ) → stops ls x r ≡ stops ms x r
  unfolding stops
  stops_alike x [] = refl
  stops_alike x (p ∷ r) =
      ap₂ {C = List ℕ} (λ s t. s ∷ t) (other_end_alike p x)
      (ap (λ (y : ℕ). stops ls y r) (other_end_alike p x) ∙ stops_alike (other_end (line_at ms p) x) r)

  route_alike : (a b : ℕ) (r : List ℕ) → route ls a b r ≡ route ms a b r
  route_alike a b r =
      ap₂ {C = Bool} (λ s t. s && t) (chained_alike a r)
      (ap₂ {C = Bool} (λ s t. s && t) (ap (λ (x : ℕ). eqb x b) (end_of_alike a r)) (ap (λ (t : List ℕ). distinct (a ∷ t)) (stops_alike a r)))

  pub separate_alike : (a b k : ℕ) (rs : List (List ℕ)) → SeparateRoutes ls a b k rs → SeparateRoutes ms a b k rs
  separate_alike a b k rs h =
      record { many = h.many; routes = sym (every_same (route ls a b) (route ms a b) (route_alike a b) rs) ∙ h.routes; apart = h.apart }

  pub join_alike : (n : ℕ) → AllJoin n ms → AllJoin n ls
  join_alike n h p l =
      let q = h p (omega (arith, same.size)) in
      let a = same.line p in
      (omega (arith, a.first, q.0), omega (arith, a.second, q.1), λ e. q.2 (sym a.first ∙ e ∙ a.second))
