-- The rows of standing bookings.
use Rattle.std.proofs.Common.{◌≡◌, ℕ, ◌+◌, ◌*◌, ◌<◌, ◌≤◌, true, false, cond, ◌&&◌, eqb, ltb, leb, List, [], ◌∷◌, ◌++◌, length, sym, refl, ap, ◌∙◌, inl, inr, add_comm, arith}
use Rattle.std.proofs.lemmas.Bool.{false≢true, cases_Bool, eq-eqb, ne_eqb, eqb-true, eqb-false, ltb-true, lt-ltb, leb-true, le-leb, and_parts, and_from, or_parts}
use Rattle.network.specs.declared.line.Line.{Line}
use Rattle.book.specs.declared.standing.Standing.{Standing}
use Rattle.book.specs.Tables.{total_shown, total_held, stands, offset_of, length_of, without, sound, owned}

-- how many lines the booking of number j has
unfoldable pub held_of : ℕ → List Standing → ℕ
held_of j [] = 0
held_of j (s ∷ ss) = cond (eqb s.number j) s.held (held_of j ss)

-- what a sound row says
pub record Row (ls : List Line) (low count : ℕ) (s : Standing) (ss : List Standing) : Type 0 where
  pub above : low < s.number
  pub own : owned ls s.number ≡ s.held
  pub some : 1 ≤ s.held
  pub short : s.length ≤ 2 * s.held
  pub rest : sound ls s.number count ss ≡ true

pub row : (ls : List Line) (low count : ℕ) (s : Standing) (ss : List Standing) → sound ls low count (s ∷ ss) ≡ true → Row ls low count s ss
unfolding sound
row ls low count s ss h =
    let p = and_parts (ltb low s.number && eqb (owned ls s.number) s.held) _ h in
    let q = and_parts (ltb low s.number) _ p.0 in
    let r = and_parts (ltb 0 s.held && leb s.length (2 * s.held)) _ p.1 in
    let t = and_parts (ltb 0 s.held) _ r.0 in
    record {
      above = ltb-true low s.number q.0;
      own = eqb-true (owned ls s.number) s.held q.1;
      some = ltb-true 0 s.held t.0;
      short = leb-true s.length (2 * s.held) t.1;
      rest = r.1;
    }

pub unrow : (ls : List Line) (low count : ℕ) (s : Standing) (ss : List Standing) → Row ls low count s ss → sound ls low count (s ∷ ss) ≡ true
unfolding sound
unrow ls low count s ss r =
    and_from _ _ (and_from _ _ (lt-ltb low s.number r.above) (eq-eqb (owned ls s.number) s.held r.own))
    (and_from _ _ (and_from _ _ (lt-ltb 0 s.held r.some) (le-leb s.length (2 * s.held) r.short)) r.rest)

pub sound_none : (ls : List Line) (low count : ℕ) → low ≤ count → sound ls low count [] ≡ true
unfolding sound
sound_none ls low count h = le-leb low count h

pub sound_low : (ls : List Line) (low count : ℕ) (ss : List Standing) → sound ls low count ss ≡ true → low ≤ count
unfolding sound
sound_low ls low count [] h = leb-true low count h
sound_low ls low count (s ∷ ss) h =
    let r = row ls low count s ss h in let l = sound_low ls s.number count ss r.rest in omega (arith, r.above, l)

-- as many rows as held lines at most, and at most two numbers for each of those
pub sound_length : (ls : List Line) (low count : ℕ) (ss : List Standing) → sound ls low count ss ≡ true → length ss ≤ total_held ss
unfolding total_held
sound_length ls low count [] h = omega arith
sound_length ls low count (s ∷ ss) h =
    let r = row ls low count s ss h in let l = sound_length ls s.number count ss r.rest in omega (arith, r.some, l)

pub sound_shown : (ls : List Line) (low count : ℕ) (ss : List Standing) → sound ls low count ss ≡ true → total_shown ss ≤ 2 * total_held ss
unfolding total_shown total_held
sound_shown ls low count [] h = omega arith
sound_shown ls low count (s ∷ ss) h =
    let r = row ls low count s ss h in let l = sound_shown ls s.number count ss r.rest in omega (arith, r.short, l)

-- a standing number has the lines that its row says
pub sound_own : (ls : List Line) (low count j : ℕ) (ss : List Standing) → sound ls low count ss ≡ true → stands j ss ≡ true → owned ls j ≡ held_of j ss
unfolding stands held_of
sound_own ls low count j [] h e = absurd (false≢true e)
sound_own ls low count j (s ∷ ss) h e =
    let r = row ls low count s ss h in
    elim (cases_Bool (eqb s.number j)) [
      | inl q ↦ rw q (ap (owned ls) (sym (eqb-true s.number j q)) ∙ r.own)
      | inr q ↦ rw q (sound_own ls s.number count j ss r.rest (rw q at e))
    ]

-- a number that is not above `low` does not stand in rows above it
pub not_standing : (ls : List Line) (low count j : ℕ) (ss : List Standing) → sound ls low count ss ≡ true → j ≤ low → stands j ss ≡ false
unfolding stands
not_standing ls low count j [] h l = refl
not_standing ls low count j (s ∷ ss) h l =
    let r = row ls low count s ss h in
    rw (ne_eqb s.number j (omega (arith, r.above))) (not_standing ls s.number count j ss r.rest (omega (arith, r.above)))

-- nor one above the count
pub not_yet : (ls : List Line) (low count j : ℕ) (ss : List Standing) → sound ls low count ss ≡ true → count < j → stands j ss ≡ false
unfolding stands
not_yet ls low count j [] h l = refl
not_yet ls low count j (s ∷ ss) h l =
    let r = row ls low count s ss h in let w = sound_low ls s.number count ss r.rest in
    rw (ne_eqb s.number j (omega arith)) (not_yet ls s.number count j ss r.rest l)

-- what stands lies within the shown numbers
pub stands_within : (j : ℕ) (ss : List Standing) → stands j ss ≡ true → offset_of j ss + length_of j ss ≤ total_shown ss
unfolding stands offset_of length_of total_shown
stands_within j [] h = absurd (false≢true h)
stands_within j (s ∷ ss) h =
    elim (cases_Bool (eqb s.number j)) [
      | inl e ↦ rw e (omega arith)
      | inr e ↦ let t = stands_within j ss (rw e at h) in rw e (omega arith)
    ]

-- a row taken out
pub shown_without : (j : ℕ) (ss : List Standing) → stands j ss ≡ true → total_shown (without j ss) + length_of j ss ≡ total_shown ss
unfolding stands length_of total_shown without
shown_without j [] h = absurd (false≢true h)
shown_without j (s ∷ ss) h =
    elim (cases_Bool (eqb s.number j)) [
      | inl e ↦ rw e (add_comm (total_shown ss) s.length)
      | inr e ↦ let r = shown_without j ss (rw e at h) in rw e (omega (arith, r))
    ]

pub held_without : (j : ℕ) (ss : List Standing) → stands j ss ≡ true → total_held (without j ss) + held_of j ss ≡ total_held ss
unfolding stands held_of total_held without
held_without j [] h = absurd (false≢true h)
held_without j (s ∷ ss) h =
    elim (cases_Bool (eqb s.number j)) [
      | inl e ↦ rw e (add_comm (total_held ss) s.held)
      | inr e ↦ let r = held_without j ss (rw e at h) in rw e (omega (arith, r))
    ]

-- rows above low, under lines that give each of them what they had
pub sound_keep : (ls ls' : List Line) (low low' count : ℕ) (ss : List Standing) → sound ls low count ss ≡ true
    → ((m : ℕ) → low < m → owned ls' m ≡ owned ls m) → low' ≤ low → sound ls' low' count ss ≡ true
sound_keep ls ls' low low' count [] h o l = let w = sound_low ls low count [] h in sound_none ls' low' count (omega arith)
sound_keep ls ls' low low' count (s ∷ ss) h o l =
    let r = row ls low count s ss h in
    unrow ls' low' count s ss
    (record {
      above = omega (arith, r.above);
      own = o s.number r.above ∙ r.own;
      some = r.some;
      short = r.short;
      rest = sound_keep ls ls' s.number s.number count ss r.rest (λ m q. o m (omega (arith, r.above))) (omega arith);
    })

pub sound_without : (ls ls' : List Line) (low count j : ℕ) (ss : List Standing) → sound ls low count ss ≡ true
    → ((m : ℕ) → (j ≡ m → ⊥) → owned ls' m ≡ owned ls m) → sound ls' low count (without j ss) ≡ true
unfolding without
sound_without ls ls' low count j [] h o = sound_none ls' low count (sound_low ls low count [] h)
sound_without ls ls' low count j (s ∷ ss) h o =
    let r = row ls low count s ss h in
    elim (cases_Bool (eqb s.number j)) [
      | inl q ↦
          let e = eqb-true s.number j q in
          rw q (sound_keep ls ls' s.number low count ss r.rest (λ m l. o m (omega arith)) (omega (arith, r.above)))
      | inr q ↦
          rw q
          (unrow ls' low count s (without j ss)
          (record {
            above = r.above;
            own = o s.number (λ z. eqb-false s.number j q (sym z)) ∙ r.own;
            some = r.some;
            short = r.short;
            rest = sound_without ls ls' s.number count j ss r.rest o;
          }))
    ]

-- one row more
module _ (r : Standing) where
  pub shown_push : (ss : List Standing) → total_shown (ss ++ r ∷ []) ≡ total_shown ss + r.length
  unfolding total_shown
  shown_push [] = omega arith
  shown_push (s ∷ ss) = omega (arith, shown_push ss)

  pub held_push : (ss : List Standing) → total_held (ss ++ r ∷ []) ≡ total_held ss + r.held
  unfolding total_held
  held_push [] = omega arith
  held_push (s ∷ ss) = omega (arith, held_push ss)

  pub stands_last : (ss : List Standing) → stands r.number (ss ++ r ∷ []) ≡ true
  unfolding stands
  stands_last [] = rw (eq-eqb r.number r.number refl) refl
  stands_last (s ∷ ss) = elim (cases_Bool (eqb s.number r.number)) [ inl e ↦ rw e refl | inr e ↦ rw e (stands_last ss) ]

  pub offset_last : (ss : List Standing) → stands r.number ss ≡ false → offset_of r.number (ss ++ r ∷ []) ≡ total_shown ss
  unfolding stands offset_of total_shown
  offset_last [] h = rw (eq-eqb r.number r.number refl) refl
  offset_last (s ∷ ss) h =
      let p = or_parts (eqb s.number r.number) (stands r.number ss) h in
      rw p.0 (ap (λ (n : ℕ). s.length + n) (offset_last ss p.1))

  pub length_last : (ss : List Standing) → stands r.number ss ≡ false → length_of r.number (ss ++ r ∷ []) ≡ r.length
  unfolding stands length_of
  length_last [] h = rw (eq-eqb r.number r.number refl) refl
  length_last (s ∷ ss) h =
      let p = or_parts (eqb s.number r.number) (stands r.number ss) h in rw p.0 (length_last ss p.1)

  -- the new row is sound over lines that give it its own and all others what they had
  pub sound_push : (ls ls' : List Line) (low count : ℕ) (ss : List Standing) → sound ls low count ss ≡ true
      → ((m : ℕ) → m ≤ count → owned ls' m ≡ owned ls m) → owned ls' r.number ≡ r.held → 1 ≤ r.held → r.length ≤ 2 * r.held
      → count < r.number → sound ls' low r.number (ss ++ r ∷ []) ≡ true
  sound_push ls ls' low count [] h o e some short l =
      let w = sound_low ls low count [] h in
      unrow ls' low r.number r []
      (record { above = omega arith; own = e; some = some; short = short; rest = sound_none ls' r.number r.number (omega arith) })
  sound_push ls ls' low count (s ∷ ss) h o e some short l =
      let q = row ls low count s ss h in
      let w = sound_low ls s.number count ss q.rest in
      unrow ls' low r.number s (ss ++ r ∷ [])
      (record {
        above = q.above;
        own = o s.number w ∙ q.own;
        some = q.some;
        short = q.short;
        rest = sound_push ls ls' s.number count ss q.rest o e some short l;
      })
