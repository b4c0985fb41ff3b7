-- Checks one after another: what the first fault of a chain says of the checks of a range of numbers.
use Rattle.std.proofs.Common.{◌≡◌, ℕ, ◌+◌, ◌<◌, ◌≤◌, Bool, true, false, Some, None, Option, sym, refl, subst, inl, inr, arith}
use Rattle.std.proofs.lemmas.Bool.{cases_lt}
use Rattle.netfile.specs.declared.faults.NetworkFault.{NetworkFault}
use Rattle.netfile.specs.Faults.{number_of, place_of}
use Rattle.netfile.specs.Search.{or_else}
use Rattle.netfile.specs.Meaning.{carried, unless}

-- A n p: check n applies at the place p
-- the fault e is the first of the checks from lo on and below hi
pub record Hit (A : ℕ → ℕ → Type 0) (lo hi : ℕ) (e : NetworkFault) : Type 0 where
  pub from : lo ≤ number_of e
  pub to : number_of e < hi
  pub applies : A (number_of e) (place_of e)
  pub lowest : (q : ℕ) → q < place_of e → A (number_of e) q → ⊥
  pub earliest : (m q : ℕ) → lo ≤ m → m < number_of e → A m q → ⊥

module _ (A : ℕ → ℕ → Type 0) where
  abbrev pub Tells : ℕ → ℕ → Option NetworkFault → Type 0
  Tells lo hi None = (m q : ℕ) → lo ≤ m → m < hi → A m q → ⊥
  Tells lo hi (Some e) = Hit A lo hi e

  -- one check alone
  abbrev pub One : ℕ → Option NetworkFault → Type 0
  One n None = (q : ℕ) → A n q → ⊥
  One n (Some e) = (number_of e ≡ n) × A n (place_of e) × ((q : ℕ) → q < place_of e → A n q → ⊥)

  pub tells_one : (n : ℕ) (o : Option NetworkFault) → One n o → Tells n (n + 1) o
  tells_one n None h =
      λ m q l u x. let same : m ≡ n = omega arith in h q (subst (λ (k : ℕ). A k q) same x)
  tells_one n (Some e) h =
      let same : n ≡ number_of e = sym h.0 in
      record {
        from = omega arith;
        to = omega arith;
        applies = subst (λ (k : ℕ). A k (place_of e)) same h.1;
        lowest = λ q l x. h.2 q l (subst (λ (k : ℕ). A k q) h.0 x);
        earliest = λ m q l u x. absurd (omega arith);
      }

  pub tells_then : (lo mid hi : ℕ) → lo ≤ mid → mid ≤ hi → (a b : Option NetworkFault) → Tells lo mid a → (a ≡ None → Tells mid hi b) → Tells lo hi (or_else a b)
  tells_then lo mid hi l u (Some e) b h k =
      record { from = h.from; to = omega (arith, h.to); applies = h.applies; lowest = h.lowest; earliest = h.earliest }
  tells_then lo mid hi l u None None h k =
      λ m q f t x. elim (cases_lt m mid) [ inl below ↦ h m q f below x | inr above ↦ k refl m q above t x ]
  tells_then lo mid hi l u None (Some e) h k =
      let f = k refl in
      record {
        from = omega (arith, f.from);
        to = f.to;
        applies = f.applies;
        lowest = f.lowest;
        earliest = λ m q g t x. elim (cases_lt m mid) [ inl below ↦ h m q g below x | inr above ↦ f.earliest m q above t x ];
      }

  module _ {D : Type 0} (w : D → NetworkFault) where
    -- the same among the faults of a lower layer
    pub tells_carried : (lo mid hi : ℕ) → lo ≤ mid → mid ≤ hi → (a b : Option D) → Tells lo mid (carried w a) → (a ≡ None → Tells mid hi (carried w b)) → Tells lo hi (carried w (or_else a b))
    tells_carried lo mid hi l u (Some e) b h k = tells_then lo mid hi l u (Some (w e)) (carried w b) h (λ e. absurd (no e))
      where
        no : {x : NetworkFault} → Some x ≡ None → ⊥
        no e = let z : ◌≡◌ {A = ℕ} 0 1 = cc in omega arith
    tells_carried lo mid hi l u None b h k = tells_then lo mid hi l u None (carried w b) h (λ e. k refl)

    -- a check by one test, and by a test before others
    pub one_unless : (n : ℕ) (t : Bool) (e : D) → (t ≡ true → One n None) → (t ≡ false → One n (Some (w e))) → One n (carried w (unless t e))
    one_unless n true e h k = h refl
    one_unless n false e h k = k refl

    pub one_before : (n : ℕ) (t : Bool) (e : D) (o : Option D) → (t ≡ true → One n (carried w o)) → (t ≡ false → One n (Some (w e))) → One n (carried w (or_else (unless t e) o))
    one_before n true e o h k = h refl
    one_before n false e o h k = k refl

pub carried_twice : {B D E : Type 0} (w : D → E) (v : B → D) (o : Option B) → carried w (carried v o) ≡ carried (λ b. w (v b)) o
carried_twice w v None = refl
carried_twice w v (Some e) = refl
