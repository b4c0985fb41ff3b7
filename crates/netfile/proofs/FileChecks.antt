-- The file layer's checks, one by one: each finds its fault exactly where it applies.
use Rattle.std.proofs.Common.{◌≡◌, ℕ, ◌/◌, ◌%◌, ◌<◌, ◌≤◌, Bool, false, ◌&&◌, eqb, leb, ◌⊎◌, List, length, get_or, refl, inl, inr, arith}
use Rattle.std.proofs.lemmas.Bool.{cases_eq, and_parts, and_cases, leb-true, leb-false, eqb-true, eqb-false, eq-eqb, and_from, both_ways}
use Rattle.netfile.specs.declared.faults.FileFault.{FileFault}
use Rattle.netfile.specs.declared.faults.FileFault.TheVariants.{Size, Signature, Edition, PairCount, PartBounds, PartLength}
use Rattle.netfile.specs.declared.faults.RecordFault.TheVariants.{File}
use Rattle.netfile.specs.declared.faults.NetworkFault.{NetworkFault}
use Rattle.netfile.specs.declared.faults.NetworkFault.TheVariants.{Record}
use Rattle.netfile.specs.Layout.{site_offset, site_length, line_offset, line_length, site_end, line_end}
use Rattle.netfile.specs.Meaning.{carried, size_fault, signature_fault, edition_fault, pair_count_fault, parts_fault, lengths_fault, file_fault}
use Rattle.netfile.specs.Checks.{Applies}
use Rattle.netfile.proofs.Chain.{Tells, One, tells_one, tells_carried, one_unless, one_before}

abbrev pub up : FileFault → NetworkFault
up e = Record (File e)

-- a conjunction of tests that fails where one of its parts fails
failing : {X : Type 0} (s t : Bool) → (s && t) ≡ false → (s ≡ false → X) → (t ≡ false → X) → X
failing s t e f g = elim (and_cases s t e) [ inl a ↦ f a | inr b ↦ g b ]

module _ (bs : List ℕ) where
  abbrev pub At : ℕ → ℕ → Type 0
  At n p = Applies n bs p

  size_one : One At 2 (carried up (size_fault bs))
  size_one =
      one_unless At up 2 (leb 14 (length bs) && leb (length bs) 8192) Size
      (λ e. let h = and_parts _ _ e in
      let a : 14 ≤ length bs = leb-true _ _ h.0 in
      let b : length bs ≤ 8192 = leb-true _ _ h.1 in
      λ q x. elim x.1 [ inl s ↦ omega arith | inr l ↦ omega arith ])
      (λ e. (refl, (refl, failing _ _ e (λ a. inl (leb-false 14 (length bs) a)) (λ b. inr (leb-false (length bs) 8192 b))), λ q l x. omega arith))

  signature_one : One At 3 (carried up (signature_fault bs))
  signature_one =
      one_unless At up 3 (eqb (get_or bs 0 0) 76 && (eqb (get_or bs 1 0) 78 && (eqb (get_or bs 2 0) 69 && eqb (get_or bs 3 0) 84))) Signature
      (λ e. let h = and_parts _ _ e in
      let i = and_parts _ _ h.1 in
      let j = and_parts _ _ i.1 in
      λ q x. x.1 (eqb-true _ _ h.0, eqb-true _ _ i.0, eqb-true _ _ j.0, eqb-true _ _ j.1))
      (λ e. (refl, (refl, λ s. both_ways _ e (and_from _ _ (eq-eqb _ _ s.0) (and_from _ _ (eq-eqb _ _ s.1) (and_from _ _ (eq-eqb _ _ s.2) (eq-eqb _ _ s.3))))), λ q l x. omega arith))

  edition_one : One At 4 (carried up (edition_fault bs))
  edition_one =
      one_unless At up 4 (eqb (get_or bs 4 0) 1) Edition
      (λ e. λ q x. x.1 (eqb-true _ _ e))
      (λ e. (refl, (refl, eqb-false _ _ e), λ q l x. omega arith))

  pair_count_one : One At 5 (carried up (pair_count_fault bs))
  pair_count_one =
      one_unless At up 5 (eqb (get_or bs 5 0) 2) PairCount
      (λ e. λ q x. x.1 (eqb-true _ _ e))
      (λ e. (refl, (refl, eqb-false _ _ e), λ q l x. omega arith))

  parts_one : One At 6 (carried up (parts_fault bs))
  parts_one =
      one_before At up 6 (leb 14 (site_offset bs) && leb (site_end bs) (length bs)) (PartBounds 6) _
      (λ e. let s = and_parts _ _ e in
      let a : 14 ≤ site_offset bs = leb-true _ _ s.0 in
      let b : site_end bs ≤ length bs = leb-true _ _ s.1 in
      let right : (q : ℕ) → (q ≡ 6) × ((site_offset bs < 14) ⊎ (length bs < site_end bs)) → ⊥ =
      λ q x. elim x.1 [ inl y ↦ omega arith | inr y ↦ omega arith ] in
      one_unless At up 6 (leb (site_end bs) (line_offset bs) && leb (line_end bs) (length bs)) (PartBounds 10)
      (λ f. let t = and_parts _ _ f in
      let c : site_end bs ≤ line_offset bs = leb-true _ _ t.0 in
      let d : line_end bs ≤ length bs = leb-true _ _ t.1 in
      λ q x. elim x [
        | inl y ↦ right q y
        | inr y ↦ elim y.1 [ inl z ↦ omega arith | inr z ↦ elim z [ inl u ↦ omega arith | inr u ↦ omega arith ] ]
      ])
      (λ f. (
        refl,
        inr (refl, failing _ _ f (λ t. inr (inl (leb-false (site_end bs) (line_offset bs) t))) (λ t. inr (inr (leb-false (line_end bs) (length bs) t)))),
        λ q l x. elim x [ inl y ↦ right q y | inr y ↦ omega (arith, y.0) ],
      )))
      (λ e. (
        refl,
        inl (refl, failing _ _ e (λ t. inl (leb-false 14 (site_offset bs) t)) (λ t. inr (leb-false (site_end bs) (length bs) t))),
        λ q l x. elim x [ inl y ↦ omega (arith, y.0) | inr y ↦ omega (arith, y.0) ],
      ))

  lengths_one : One At 7 (carried up (lengths_fault bs))
  lengths_one =
      let n = site_length bs in
      let m = line_length bs in
      one_before At up 7 (leb 1 (n / 8) && (leb (n / 8) 64 && eqb (n % 8) 0)) (PartLength 8) _
      (λ e. let s = and_parts _ _ e in
      let t = and_parts _ _ s.1 in
      let a : 1 ≤ n / 8 = leb-true _ _ s.0 in
      let b : n / 8 ≤ 64 = leb-true _ _ t.0 in
      let c : n % 8 ≡ 0 = eqb-true _ _ t.1 in
      let right : (q : ℕ) → (q ≡ 8) × ((n ≡ 0) ⊎ ((512 < n) ⊎ (n % 8 ≡ 0 → ⊥))) → ⊥ =
      λ q x. elim x.1 [ inl y ↦ omega arith | inr y ↦ elim y [ inl z ↦ omega arith | inr z ↦ z c ] ] in
      one_unless At up 7 (leb 0 (m / 6) && (leb (m / 6) 512 && eqb (m % 6) 0)) (PartLength 12)
      (λ f. let most = and_parts (leb 0 (m / 6)) (leb (m / 6) 512 && eqb (m % 6) 0) f in
      let u = and_parts (leb (m / 6) 512) (eqb (m % 6) 0) most.1 in
      let g : m / 6 ≤ 512 = leb-true _ _ u.0 in
      let h : m % 6 ≡ 0 = eqb-true _ _ u.1 in
      λ q x. elim x [
        | inl y ↦ right q y
        | inr y ↦ elim y.1 [ inl z ↦ omega arith | inr z ↦ z h ]
      ])
      (λ f. (
        refl,
        inr (
          refl,
          failing _ _ f (λ u. let z : m / 6 < 0 = leb-false 0 (m / 6) u in absurd (omega arith))
              (λ r. failing _ _ r (λ u. inl (let z : 512 < m / 6 = leb-false (m / 6) 512 u in omega arith)) (λ u. inr (eqb-false _ _ u))),
        ),
        λ q l x. elim x [ inl y ↦ right q y | inr y ↦ omega (arith, y.0) ],
      )))
      (λ e. (
        refl,
        inl (
          refl,
          failing _ _ e
              (λ t. let z : n / 8 < 1 = leb-false 1 (n / 8) t in
              elim (cases_eq n 0) [ inl none ↦ inl none | inr some ↦ inr (inr (λ w. omega arith)) ])
              (λ r. failing _ _ r (λ t. inr (inl (let z : 64 < n / 8 = leb-false (n / 8) 64 t in omega arith))) (λ t. inr (inr (eqb-false _ _ t)))),
        ),
        λ q l x. elim x [ inl y ↦ omega (arith, y.0) | inr y ↦ omega (arith, y.0) ],
      ))

  -- all of them, in their order
  pub file_tells : Tells At 2 8 (carried up (file_fault bs))
  unfolding file_fault
  file_tells =
      tells_carried At up 2 3 8 (omega arith) (omega arith) (size_fault bs) _ (tells_one At 2 _ size_one) (λ _.
      tells_carried At up 3 4 8 (omega arith) (omega arith) (signature_fault bs) _ (tells_one At 3 _ signature_one) (λ _.
      tells_carried At up 4 5 8 (omega arith) (omega arith) (edition_fault bs) _ (tells_one At 4 _ edition_one) (λ _.
      tells_carried At up 5 6 8 (omega arith) (omega arith) (pair_count_fault bs) _ (tells_one At 5 _ pair_count_one) (λ _.
      tells_carried At up 6 7 8 (omega arith) (omega arith) (parts_fault bs) _ (tells_one At 6 _ parts_one) (λ _.
      tells_one At 7 _ lengths_one)))))
