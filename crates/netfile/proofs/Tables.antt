-- The sites and lines of a file, by place and position.
use Rattle.std.proofs.Common.{◌≡◌, ℕ, ◌<◌, ◌≤◌, List, map, length, Some, None, ap, ◌∙◌, arith}
use Rattle.std.specs.List.{slice_get, range_with_len}
use Rattle.std.proofs.lemmas.List.FromFn.{length-map-range_with_len, get_or-map-range_with_len}
use Rattle.std.proofs.lemmas.Option.{slice_get-get_or, slice_get_past}
use Rattle.netfile.specs.Layout.{site_count, line_count, site_record}
use Rattle.netfile.specs.Meaning.{sites_in, lines_in, line_record}

-- a list made from a function of the position
module _ {X : Type 0} (f : ℕ → X) (n i : ℕ) where
  nth_made : i < n → slice_get (map f (range_with_len 0 n)) i ≡ Some (f i)
  nth_made h =
      slice_get-get_or (map f (range_with_len 0 n)) i (f i) (omega (arith, length-map-range_with_len f 0 n)) ∙ ap (λ (x : X). Some x) (get_or-map-range_with_len f 0 n i i (f i) h (omega arith))

  nth_not_made : n ≤ i → slice_get (map f (range_with_len 0 n)) i ≡ None
  nth_not_made h = slice_get_past (map f (range_with_len 0 n)) i (omega (arith, length-map-range_with_len f 0 n))

module _ (bs : List ℕ) where
  pub sites_length : length (sites_in bs) ≡ site_count bs
  unfolding sites_in
  sites_length = length-map-range_with_len (site_record bs) 0 (site_count bs)

  pub lines_length : length (lines_in bs) ≡ line_count bs
  unfolding lines_in
  lines_length = length-map-range_with_len (line_record bs) 0 (line_count bs)

  pub site_there : (i : ℕ) → i < site_count bs → slice_get (sites_in bs) i ≡ Some (site_record bs i)
  unfolding sites_in
  site_there i h = nth_made (site_record bs) (site_count bs) i h

  pub site_past : (i : ℕ) → site_count bs ≤ i → slice_get (sites_in bs) i ≡ None
  unfolding sites_in
  site_past i h = nth_not_made (site_record bs) (site_count bs) i h

  pub line_there : (j : ℕ) → j < line_count bs → slice_get (lines_in bs) j ≡ Some (line_record bs j)
  unfolding lines_in
  line_there j h = nth_made (line_record bs) (line_count bs) j h

  pub line_past : (j : ℕ) → line_count bs ≤ j → slice_get (lines_in bs) j ≡ None
  unfolding lines_in
  line_past j h = nth_not_made (line_record bs) (line_count bs) j h
