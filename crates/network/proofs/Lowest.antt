-- The lowest number at which a test holds.
use Rattle.std.proofs.Common.{◌≡◌, ℕ, zero, suc, ◌<◌, ◌≤◌, Bool, true, false, sym, refl, ap, ◌∙◌, ap₂, inl, inr, arith}
use Rattle.std.proofs.lemmas.Bool.{cases_Bool, cases_eq, cases_lt, false≢true}
use Rattle.std.proofs.lemmas.Bool.Decides.{nat_tests}
use Rattle.network.specs.Groups.{settled, lowest_by}

settled_le : (m r : ℕ) (t : Bool) → settled m r t ≤ suc m
settled_le m r t = grind (arith, nat_tests)

pub lowest_le : (P : ℕ → Bool) (m : ℕ) → lowest_by P m ≤ m
unfolding lowest_by
lowest_le P zero = omega arith
lowest_le P (suc m) = settled_le m (lowest_by P m) (P m)

-- below the bound it stays, at the bound the test decides
settled_low : (m r : ℕ) (t : Bool) → r < m → settled m r t ≡ r
settled_low m r t h = grind (arith, nat_tests)

settled_here : (m r : ℕ) (t : Bool) → m ≤ r → t ≡ true → settled m r t ≡ m
settled_here m r t h e = grind (arith, nat_tests)

settled_past : (m r : ℕ) (t : Bool) → m ≤ r → t ≡ false → settled m r t ≡ suc m
settled_past m r t h e = grind (arith, nat_tests)

-- where it is below the bound, the test holds there
pub lowest_holds : (P : ℕ → Bool) (m : ℕ) → lowest_by P m < m → P (lowest_by P m) ≡ true
unfolding lowest_by
lowest_holds P zero h = absurd (omega arith)
lowest_holds P (suc m) h =
    elim (cases_lt (lowest_by P m) m) [
      | inl l ↦ ap P (settled_low m (lowest_by P m) (P m) l) ∙ lowest_holds P m l
      | inr l ↦ elim (cases_Bool (P m)) [
        | inl p ↦ ap P (settled_here m (lowest_by P m) (P m) l p) ∙ p
        | inr p ↦ absurd (omega (arith, settled_past m (lowest_by P m) (P m) l p))
      ]
    ]

-- and nowhere lower
pub lowest_none : (P : ℕ → Bool) (m i : ℕ) → i < lowest_by P m → P i ≡ false
unfolding lowest_by
lowest_none P zero i h = absurd (omega arith)
lowest_none P (suc m) i h =
    elim (cases_lt (lowest_by P m) m) [
      | inl l ↦ lowest_none P m i (omega (arith, settled_low m (lowest_by P m) (P m) l))
      | inr l ↦ elim (cases_Bool (P m)) [
        | inl p ↦ lowest_none P m i (omega (arith, settled_here m (lowest_by P m) (P m) l p))
        | inr p ↦ elim (cases_eq i m) [
          | inl e ↦ ap P e ∙ p
          | inr ne ↦ lowest_none P m i (omega (arith, settled_past m (lowest_by P m) (P m) l p))
        ]
      ]
    ]

-- so it is at most any number at which the test holds
pub lowest_first : (P : ℕ → Bool) (m i : ℕ) → P i ≡ true → lowest_by P m ≤ i
lowest_first P m i p =
    elim (cases_lt i (lowest_by P m)) [
      | inl l ↦ absurd (false≢true (sym (lowest_none P m i l) ∙ p))
      | inr l ↦ l
    ]

pub lowest_same : (P Q : ℕ → Bool) (m : ℕ) → ((i : ℕ) → i < m → P i ≡ Q i) → lowest_by P m ≡ lowest_by Q m
unfolding lowest_by
lowest_same P Q zero e = refl
lowest_same P Q (suc m) e = ap₂ (λ r t. settled m r t) (lowest_same P Q m (λ i l. e i (omega arith))) (e m (omega arith))
