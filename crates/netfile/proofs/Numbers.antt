-- The numbers of records that follow one another.
use Rattle.std.proofs.Common.{◌≡◌, ℕ, ◌+◌, ◌*◌, ◌<◌, ◌≤◌, List, length, get_or, arith}
use Rattle.std.proofs.lemmas.List.FromFn.{length-map-range_with_len, get_or-map-range_with_len}
use Rattle.std.proofs.lemmas.List.{get_or_past}
use Rattle.netfile.specs.Layout.{pair_at, numbers_from}

module _ (bs : List ℕ) (start step n : ℕ) where
  pub length_numbers : length (numbers_from bs start step n) ≡ n
  unfolding numbers_from
  length_numbers = length-map-range_with_len _ 0 n

  pub get_or_numbers : (i : ℕ) → i < n → get_or (numbers_from bs start step n) i 0 ≡ pair_at bs (start + step * i)
  unfolding numbers_from
  get_or_numbers i h = get_or-map-range_with_len _ 0 n i i 0 h (omega arith)

  pub past_numbers : (i : ℕ) → n ≤ i → get_or (numbers_from bs start step n) i 0 ≡ 0
  past_numbers i h = get_or_past _ i 0 (omega (arith, length_numbers))
