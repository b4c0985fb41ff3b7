-- The records of a part: what their bytes say is what the bytes of the file say at their places.
use Rattle.std.proofs.Common.{◌≡◌, ℕ, zero, suc, ◌+◌, ◌-◌, ◌*◌, ◌/◌, ◌<◌, ◌≤◌, List, [], ◌∷◌, map, length, take, drop, get_or, Some, None, Option, Bor, refl, sym, ap, ◌∙◌, add-zero, add_assoc, arith}
use Rattle.std.specs.List.{range_with_len, slice_get}
use Rattle.std.specs.Option.{option_copied}
use Rattle.std.specs.Slice.{IsItemAt}
use Rattle.std.proofs.lemmas.Option.{slice_get_past, slice_get_read}
use Rattle.std.specs.Simd.{first_chunks}
use Rattle.std.proofs.Math.Nat.{mul-suc, mul-div-le}
use Rattle.std.proofs.lemmas.List.{get_or-take, get_or-drop, take-take, drop-take, drop-drop}
use Rattle.std.proofs.lemmas.List.FromFn.{length-map-range_with_len, get_or-map-range_with_len}
use Rattle.std.proofs.lemmas.Simd.{map-map}
use Rattle.netfile.specs.Layout.{IsRecordSize, pair_at, site_from, site_count, line_count, site_start, line_start, site_record, site_records, line_records, records_from, numbers_from, numbers_of, site_numbers}
use Rattle.netfile.specs.Meaning.{sites_in, lines_in, line_record}
use Rattle.netfile.specs.Records.{named_from, line_from}

-- the first chunks need no more than their own elements
chunks_cut : {X : Type 0} (size n m : ℕ) (xs : List X) → size * n ≤ m → first_chunks size n (take m xs) ≡ first_chunks size n xs
chunks_cut size zero m xs h = refl
chunks_cut {X} size (suc n) m xs h =
    let both : size * suc n ≡ size * n + size = mul-suc size n in
    let room : size + (m - size) ≡ m = omega (arith, both) in
    let rest : drop size (take m xs) ≡ take (m - size) (drop size xs) =
    ap (λ (k : ℕ). drop size (take k xs)) (sym room) ∙ drop-take size (m - size) xs in
    rw (take-take size m xs (omega (arith, both)), rest, chunks_cut size n (m - size) (drop size xs) (omega (arith, both)))

module _ (bs : List ℕ) where
  -- the chunks from one record on
  chunks_on : (start size k n : ℕ) → first_chunks size n (drop (start + size * k) bs) ≡ map (λ i. take size (drop (start + size * i) bs)) (range_with_len k n)
  chunks_on start size k zero = refl
  chunks_on start size k (suc n) =
      let next : start + size * k + size ≡ start + size * (k + 1) = omega (arith, mul-suc size k) in
      rw (drop-drop size (start + size * k) bs, next, chunks_on start size (k + 1) n)

  pub records_are_chunks : (start size m : ℕ) → first_chunks size (m / size) (take m (drop start bs)) ≡ records_from bs start size (m / size)
  unfolding records_from
  records_are_chunks start size m =
      let first : start ≡ start + size * 0 = omega arith in
      chunks_cut size (m / size) m (drop start bs) (mul-div-le m size) ∙ ap (λ (k : ℕ). first_chunks size (m / size) (drop k bs)) first ∙ chunks_on start size 0 (m / size)

  pub length_records : (start size n : ℕ) → length (records_from bs start size n) ≡ n
  unfolding records_from
  length_records start size n = length-map-range_with_len _ 0 n

  pub record_there : (start size n i : ℕ) (d : List ℕ) → i < n → get_or (records_from bs start size n) i d ≡ take size (drop (start + size * i) bs)
  unfolding records_from
  record_there start size n i d h = get_or-map-range_with_len _ 0 n i i d h (omega arith)

  -- a byte of a record, and a number in two of them
  byte_there : (k size i : ℕ) → i < size → get_or (take size (drop k bs)) i 0 ≡ get_or bs (k + i) 0
  byte_there k size i h = get_or-take size (drop k bs) i 0 h ∙ get_or-drop k bs i 0

  pub pair_there : (k size i : ℕ) → i + 1 < size → pair_at (take size (drop k bs)) i ≡ pair_at bs (k + i)
  pair_there k size i h =
      let low = byte_there k size i (omega arith) in
      let high = byte_there k size (i + 1) h in
      let next : k + (i + 1) ≡ k + i + 1 = omega arith in rw (low, high, next)

-- the same function at each position makes the same list
map_same : {X Y : Type 0} (f g : X → Y) → ((x : X) → f x ≡ g x) → (xs : List X) → map f xs ≡ map g xs
map_same f g h [] = refl
map_same f g h (x ∷ xs) = rw (h x, map_same f g h xs)

module _ (bs : List ℕ) where
  pub numbers_of_records : (start size n : ℕ) → IsRecordSize size → numbers_of (records_from bs start size n) ≡ numbers_from bs start size n
  unfolding records_from numbers_from
  numbers_of_records start size n h =
      map-map (λ r. pair_at r 0) (λ i. take size (drop (start + size * i) bs)) (range_with_len 0 n) ∙ map_same (λ i. pair_at (take size (drop (start + size * i) bs)) 0) (λ i. pair_at bs (start + size * i)) same (range_with_len 0 n)
    where
      same : (i : ℕ) → pair_at (take size (drop (start + size * i) bs)) 0 ≡ pair_at bs (start + size * i)
      same i = pair_there bs (start + size * i) size 0 (omega (arith, h.0)) ∙ ap (pair_at bs) (add-zero (start + size * i))

  -- what a record says alone is what it says in the file
  pub site_read : (k : ℕ) → site_from (take 8 (drop k bs)) 0 ≡ site_from bs k
  site_read k =
      let at = λ (i : ℕ) (h : i < 8). byte_there bs k 8 i h in
      rw (at 0 (omega arith), at 1 (omega arith), at 2 (omega arith), at 3 (omega arith), at 4 (omega arith), at 5 (omega arith), at 6 (omega arith), at 7 (omega arith), add-zero k)

  pub line_read : (k : ℕ) → named_from (take 6 (drop k bs)) 0 ≡ named_from bs k
  line_read k =
      let at = λ (i : ℕ) (h : i < 6). byte_there bs k 6 i h in
      rw (at 0 (omega arith), at 1 (omega arith), at 2 (omega arith), at 3 (omega arith), at 4 (omega arith), at 5 (omega arith), add-zero k, add_assoc k 2 1, add_assoc k 4 1)

  pub sites_of_records : sites_in bs ≡ map (λ r. site_from r 0) (site_records bs)
  unfolding sites_in records_from
  sites_of_records =
      map_same (site_record bs) (λ i. site_from (take 8 (drop (site_start bs i) bs)) 0) (λ i. sym (site_read (site_start bs i))) (range_with_len 0 (site_count bs)) ∙ sym (map-map (λ r. site_from r 0) (λ i. take 8 (drop (site_start bs i) bs)) (range_with_len 0 (site_count bs)))

  pub lines_of_records : lines_in bs ≡ map (λ r. line_from (site_numbers bs) (named_from r 0)) (line_records bs)
  unfolding lines_in records_from
  lines_of_records =
      map_same (line_record bs) (λ j. line_from (site_numbers bs) (named_from (take 6 (drop (line_start bs j) bs)) 0)) (λ j. ap (line_from (site_numbers bs)) (sym (line_read (line_start bs j)))) (range_with_len 0 (line_count bs)) ∙ sym (map-map (λ r. line_from (site_numbers bs) (named_from r 0)) (λ j. take 6 (drop (line_start bs j) bs)) (range_with_len 0 (line_count bs)))

-- what `get` lends is the element at the position
pub lent_there : {X : Type 0} (xs : List X) (i : ℕ) (r : Option (Bor X)) → IsItemAt xs i r → option_copied r ≡ slice_get xs i
lent_there xs i None h = sym (slice_get_past xs i h.3)
lent_there xs i (Some x) h = sym (slice_get_read xs (length xs) i x.now refl h.3.0 h.1)
