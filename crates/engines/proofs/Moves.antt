-- A unit of surplus moved, and a place raised: what becomes of heights, surplus and the work that is left.
use Rattle.std.proofs.Common.{◌≡◌, ℕ, ◌+◌, ◌-◌, ◌*◌, ◌<◌, Bool, cond, eqb, List, length, set, sum_by, sym, ap, ◌∙◌, inl, inr, add-mul, mul-add, arith}
use Rattle.std.proofs.lemmas.List.Sums.{sum_by-set}
use Rattle.std.proofs.lemmas.List.{length-set, get_or-set_same, get_or-set_other}
use Rattle.std.proofs.lemmas.Bool.{cases_eq, eq-eqb, ne_eqb}
use Rattle.network.specs.declared.engine.SiteWork.{SiteWork}
use Rattle.network.specs.Flow.{one}
use Rattle.engines.specs.Search.{no_site, site_at}
use Rattle.engines.specs.Heights.{height_at, surplus_at, less_one, more_one, higher, moved, raised, weight, left}

-- a field of a table in which one record changed
set_field : (f : SiteWork → ℕ) (ws : List SiteWork) (p x : ℕ) (w : SiteWork) → p < length ws →
    f (site_at (set ws p w) x) ≡ cond (eqb x p) (f w) (f (site_at ws x))
set_field f ws p x w lt =
    elim (cases_eq x p) [
      | inl eq ↦ ap (λ (y : ℕ). f (site_at (set ws p w) y)) eq ∙ ap f (get_or-set_same ws p w no_site lt) ∙ sym (ap (λ (t : Bool). cond t (f w) (f (site_at ws x))) (eq-eqb x p eq))
      | inr ne ↦ ap f (get_or-set_other ws p x w no_site ne) ∙ sym (ap (λ (t : Bool). cond t (f w) (f (site_at ws x))) (ne_eqb x p ne))
    ]

weight_less : (n : ℕ) (w : SiteWork) → 0 < w.surplus → weight n (less_one w) + w.height ≡ weight n w
weight_less n w h =
    let e : (w.surplus - 1) * w.height + w.height ≡ w.surplus * w.height =
    sym (add-mul (w.surplus - 1) 1 w.height ∙ omega arith) ∙ ap (λ (x : ℕ). x * w.height) (omega arith) in
    omega arith

weight_more : (n : ℕ) (w : SiteWork) → weight n (more_one w) ≡ weight n w + w.height
weight_more n w = omega (arith, add-mul w.surplus 1 w.height)

weight_higher : (n : ℕ) (w : SiteWork) → w.height < 2 * n → weight n (higher w) + 1025 ≡ weight n w + w.surplus
weight_higher n w h = omega (arith, mul-add w.surplus w.height 1)

-- the sums of a move, with the weights as plain numbers
shuffle : (r m l wt wl wh wm ht hh hm : ℕ) → m + wt ≡ l + wl → r + wh ≡ m + wm → wl + ht ≡ wt → wm ≡ wh + hm → hm ≡ hh → r + ht ≡ l + hh
shuffle r m l wt wl wh wm ht hh hm a b c d e = omega arith

module _ (ws : List SiteWork) (t h : ℕ) (t_in : t < length ws) (h_in : h < length ws) (apart : t ≡ h → ⊥) (has : 0 < surplus_at ws t) where
  mid : List SiteWork
  mid = set ws t (less_one (site_at ws t))

  mid_length : length mid ≡ length ws
  unfolding mid
  mid_length = length-set ws t (less_one (site_at ws t))

  mid_h : site_at mid h ≡ site_at ws h
  unfolding mid
  mid_h = get_or-set_other ws t h (less_one (site_at ws t)) no_site (λ e. apart (sym e))

  pub moved_length : length (moved ws t h) ≡ length ws
  unfolding mid
  moved_length = length-set mid h (more_one (site_at mid h)) ∙ mid_length

  pub moved_surplus : (x : ℕ) → surplus_at (moved ws t h) x + one (eqb x t) ≡ surplus_at ws x + one (eqb x h)
  unfolding mid
  moved_surplus x =
      let f : SiteWork → ℕ = λ w. w.surplus in
      let inner = set_field f ws t x (less_one (site_at ws t)) t_in in
      let outer = set_field f mid h x (more_one (site_at mid h)) (omega (arith, mid_length)) in
      let m : (site_at mid h).surplus ≡ surplus_at ws h = ap f mid_h in
      elim (cases_eq x t) [
        | inl eq ↦ let e1 = eq-eqb x t eq in let e2 = ne_eqb x h (λ e. apart (sym eq ∙ e)) in let s = ap (surplus_at ws) eq in grind arith
        | inr ne ↦ elim (cases_eq x h) [
          | inl eq ↦ let e1 = ne_eqb x t ne in let e2 = eq-eqb x h eq in let s = ap (surplus_at ws) eq in grind arith
          | inr ne2 ↦ let e1 = ne_eqb x t ne in let e2 = ne_eqb x h ne2 in grind arith
        ]
      ]

  pub moved_height : (x : ℕ) → height_at (moved ws t h) x ≡ height_at ws x
  unfolding mid
  moved_height x =
      let f : SiteWork → ℕ = λ w. w.height in
      let inner = set_field f ws t x (less_one (site_at ws t)) t_in in
      let outer = set_field f mid h x (more_one (site_at mid h)) (omega (arith, mid_length)) in
      let m : (site_at mid h).height ≡ height_at ws h = ap f mid_h in
      elim (cases_eq x h) [
        | inl eq ↦ let e2 = eq-eqb x h eq in let s = ap (height_at ws) eq in grind arith
        | inr ne ↦ let e2 = ne_eqb x h ne in elim (cases_eq x t) [
          | inl eq ↦ let e1 = eq-eqb x t eq in let s = ap (height_at ws) eq in grind arith
          | inr ne2 ↦ let e1 = ne_eqb x t ne2 in grind arith
        ]
      ]

  pub moved_left : (n : ℕ) → left n (moved ws t h) + height_at ws t ≡ left n ws + height_at ws h
  unfolding mid
  moved_left n =
      let first : sum_by (weight n) mid + weight n (site_at ws t) ≡ sum_by (weight n) ws + weight n (less_one (site_at ws t)) =
      sum_by-set (weight n) ws t (less_one (site_at ws t)) no_site t_in in
      let second : sum_by (weight n) (moved ws t h) + weight n (site_at mid h) ≡ sum_by (weight n) mid + weight n (more_one (site_at mid h)) =
      sum_by-set (weight n) mid h (more_one (site_at mid h)) no_site (omega (arith, mid_length)) in
      shuffle (sum_by (weight n) (moved ws t h)) (sum_by (weight n) mid) (sum_by (weight n) ws) (weight n (site_at ws t)) (weight n (less_one (site_at ws t)))
      (weight n (site_at mid h)) (weight n (more_one (site_at mid h))) (height_at ws t) (height_at ws h) (site_at mid h).height
      first second (weight_less n (site_at ws t) has) (weight_more n (site_at mid h)) (ap (λ (w : SiteWork). w.height) mid_h)

module _ (ws : List SiteWork) (p : ℕ) (p_in : p < length ws) where
  pub raised_length : length (raised ws p) ≡ length ws
  raised_length = length-set ws p (higher (site_at ws p))

  pub raised_surplus : (x : ℕ) → surplus_at (raised ws p) x ≡ surplus_at ws x
  raised_surplus x =
      let e = set_field (λ (w : SiteWork). w.surplus) ws p x (higher (site_at ws p)) p_in in
      elim (cases_eq x p) [
        | inl eq ↦ let t = eq-eqb x p eq in let s = ap (surplus_at ws) eq in grind arith
        | inr ne ↦ let t = ne_eqb x p ne in grind arith
      ]

  pub raised_height : (x : ℕ) → height_at (raised ws p) x ≡ height_at ws x + one (eqb x p)
  raised_height x =
      let e = set_field (λ (w : SiteWork). w.height) ws p x (higher (site_at ws p)) p_in in
      elim (cases_eq x p) [
        | inl eq ↦ let t = eq-eqb x p eq in let s = ap (height_at ws) eq in grind arith
        | inr ne ↦ let t = ne_eqb x p ne in grind arith
      ]

  pub raised_left : (n : ℕ) → height_at ws p < 2 * n → left n (raised ws p) + 1025 ≡ left n ws + surplus_at ws p
  raised_left n low =
      let one_set = sum_by-set (weight n) ws p (higher (site_at ws p)) no_site p_in in
      let rose = weight_higher n (site_at ws p) low in
      omega arith
