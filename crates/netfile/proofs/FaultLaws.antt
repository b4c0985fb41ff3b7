-- The first fault of any bytes is the first check that applies, at its lowest place.
use Rattle.std.proofs.Common.{◌≡◌, ℕ, ◌<◌, ◌≤◌, false, eqb, ◌⊎◌, ◌↔◌, List, Some, None, Option, sym, refl, subst, inl, inr, arith}
use Rattle.std.proofs.lemmas.Bool.{ne_eqb, cases_lt, cases_order}
use Rattle.netfile.specs.declared.faults.FileFault.TheVariants.{Size, Signature, Edition, PairCount, PartBounds, PartLength}
use Rattle.netfile.specs.declared.faults.RecordFault.TheVariants.{File, NotRising}
use Rattle.netfile.specs.declared.faults.NetworkFault.{NetworkFault}
use Rattle.netfile.specs.declared.faults.NetworkFault.TheVariants.{Record, Ends}
use Rattle.netfile.specs.Faults.{number_of, layer_of, place_of}
use Rattle.netfile.specs.Meaning.{carried, file_fault, rising_fault, record_fault, ends_fault, first_fault}
use Rattle.netfile.specs.Checks.{Applies, First, FaultAt, layer_for}
use Rattle.netfile.proofs.Accepted.{bounded, not_carried}
use Rattle.netfile.proofs.Chain.{Hit, Tells, tells_one, tells_then, tells_carried, carried_twice}
use Rattle.netfile.proofs.FileChecks.{At, up, file_tells}
use Rattle.netfile.proofs.RecordChecks.{rising_one}
use Rattle.netfile.proofs.NetworkChecks.{ends_one}

module _ (bs : List ℕ) where
  record_tells : Tells (At bs) 2 9 (carried (λ e. Record e) (record_fault bs))
  record_tells =
      tells_carried (At bs) (λ e. Record e) 2 8 9 (omega arith) (omega arith) (carried (λ e. File e) (file_fault bs)) (rising_fault bs)
      (subst (Tells (At bs) 2 8) (sym (carried_twice (λ e. Record e) (λ e. File e) (file_fault bs))) (file_tells bs))
      (λ none. tells_one (At bs) 8 _ (rising_one bs (bounded bs (not_carried _ _ none))))

  pub tells : Tells (At bs) 2 10 (first_fault bs)
  unfolding first_fault
  tells =
      tells_then (At bs) 2 9 10 (omega arith) (omega arith) (carried (λ e. Record e) (record_fault bs)) (ends_fault bs)
      record_tells (λ none. tells_one (At bs) 9 _ (ends_one bs))

  -- there are no other checks
  outside : (m q : ℕ) → (m < 2) ⊎ (9 < m) → Applies m bs q → ⊥
  outside m q o x =
      let no : (k : ℕ) → 2 ≤ k → k ≤ 9 → eqb m k ≡ false =
      λ k l u. ne_eqb m k (λ s. elim o [ inl a ↦ omega arith | inr b ↦ omega arith ]) in
      simp (no 2 (omega arith) (omega arith), no 3 (omega arith) (omega arith), no 4 (omega arith) (omega arith), no 5 (omega arith) (omega arith), no 6 (omega arith) (omega arith), no 7 (omega arith) (omega arith), no 8 (omega arith) (omega arith), no 9 (omega arith) (omega arith)) at x

  from_hit : (e : NetworkFault) → Hit (At bs) 2 10 e → First bs (number_of e) (place_of e)
  from_hit e h =
      record {
        applies = h.applies;
        lowest = h.lowest;
        earliest = λ m q l x. elim (cases_lt m 2) [ inl low ↦ outside m q (inl low) x | inr up ↦ h.earliest m q up l x ];
      }

  -- only one check is the first, at one place
  same_first : (n p m q : ℕ) → First bs n p → First bs m q → (n ≡ m) × (p ≡ q)
  same_first n p m q f g = elim (cases_order n m) [
    | inl same ↦ (same, places same)
    | inr r ↦ elim r [ inl below ↦ absurd (g.earliest n p below f.applies) | inr above ↦ absurd (f.earliest m q above g.applies) ]
  ]
    where
      places : n ≡ m → p ≡ q
      places same = elim (cases_order p q) [
        | inl e ↦ e
        | inr r ↦ elim r [
          | inl below ↦ absurd (g.lowest p below (subst (λ (k : ℕ). Applies k bs p) same f.applies))
          | inr above ↦ absurd (f.lowest q above (subst (λ (k : ℕ). Applies k bs q) (sym same) g.applies))
        ]
      ]

  fault_first : (n p : ℕ) → FaultAt bs n p → First bs n p
  fault_first n p x =
      let h = from_hit x.0 (subst (Tells (At bs) 2 10) x.1 tells) in
      subst (λ (k : ℕ). First bs k p) x.2 (subst (λ (k : ℕ). First bs (number_of x.0) k) x.3 h)

  pub none_applies : first_fault bs ≡ None → (m q : ℕ) → Applies m bs q → ⊥
  none_applies e m q x =
      let h = subst (Tells (At bs) 2 10) e tells in
      elim (cases_lt m 2) [
        | inl low ↦ outside m q (inl low) x
        | inr up ↦ elim (cases_lt m 10) [ inl low ↦ h m q up low x | inr high ↦ outside m q (inr (omega arith)) x ]
      ]

  pub fault_is_first : (e : NetworkFault) → first_fault bs ≡ Some e → First bs (number_of e) (place_of e)
  fault_is_first e h = fault_first (number_of e) (place_of e) (e, h, refl, refl)

  first_fault_at : (n p : ℕ) (o : Option NetworkFault) → first_fault bs ≡ o → First bs n p → FaultAt bs n p
  first_fault_at n p None e f = absurd (none_applies e n p f.applies)
  first_fault_at n p (Some y) e f =
      let s = same_first (number_of y) (place_of y) n p (from_hit y (subst (Tells (At bs) 2 10) e tells)) f in
      (y, e, s.0, s.1)

  nothing_applies : (o : Option NetworkFault) → first_fault bs ≡ o → ((m q : ℕ) → Applies m bs q → ⊥) → first_fault bs ≡ None
  nothing_applies None e h = e
  nothing_applies (Some y) e h = absurd (h (number_of y) (place_of y) (fault_is_first y e).applies)

  pub fault_law : (n p : ℕ) → FaultAt bs n p ↔ First bs n p
  fault_law n p = (fault_first n p, first_fault_at n p (first_fault bs) refl)

  pub none_law : (first_fault bs ≡ None) ↔ ((n p : ℕ) → Applies n bs p → ⊥)
  none_law = (none_applies, nothing_applies (first_fault bs) refl)

pub layer_law : (e : NetworkFault) → layer_of e ≡ layer_for (number_of e)
layer_law (Record (File Size)) = refl
layer_law (Record (File Signature)) = refl
layer_law (Record (File Edition)) = refl
layer_law (Record (File PairCount)) = refl
layer_law (Record (File (PartBounds p))) = refl
layer_law (Record (File (PartLength p))) = refl
layer_law (Record (NotRising p)) = refl
layer_law (Ends p) = refl
