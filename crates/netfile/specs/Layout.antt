-- The layout of a network file: which bytes say what.
use Rattle.std.specs.Prelude.{ℕ, ◌+◌, ◌*◌, ◌/◌, ◌≤◌, List, [], ◌∷◌, map, take, drop, slice_index}
use Rattle.std.specs.List.{range_with_len}
use Rattle.network.specs.declared.site.Site.{Site}

-- the number in two bytes, the low one first
abbrev pub pair_at : List ℕ → ℕ → ℕ
pair_at bs i = slice_index bs i + 256 * slice_index bs (i + 1)

-- the header's two pairs: where each part starts, and how many bytes it has
abbrev pub site_offset : List ℕ → ℕ
site_offset bs = pair_at bs 6

abbrev pub site_length : List ℕ → ℕ
site_length bs = pair_at bs 8

abbrev pub line_offset : List ℕ → ℕ
line_offset bs = pair_at bs 10

abbrev pub line_length : List ℕ → ℕ
line_length bs = pair_at bs 12

-- the first byte past each part
abbrev pub site_end : List ℕ → ℕ
site_end bs = site_offset bs + site_length bs

abbrev pub line_end : List ℕ → ℕ
line_end bs = line_offset bs + line_length bs

-- how many records each part has: of eight bytes, and of six
abbrev pub site_count : List ℕ → ℕ
site_count bs = site_length bs / 8

abbrev pub line_count : List ℕ → ℕ
line_count bs = line_length bs / 6

-- the first byte of a record
abbrev pub site_start : List ℕ → ℕ → ℕ
site_start bs i = site_offset bs + 8 * i

abbrev pub line_start : List ℕ → ℕ → ℕ
line_start bs j = line_offset bs + 6 * j

-- a site record from its first byte on: its number and its call sign of six bytes
abbrev pub site_from : List ℕ → ℕ → Site
site_from bs k =
    record {
      number = pair_at bs k;
      call_sign = slice_index bs (k + 2) ∷ slice_index bs (k + 3) ∷ slice_index bs (k + 4) ∷ slice_index bs (k + 5) ∷ slice_index bs (k + 6) ∷ slice_index bs (k + 7) ∷ [];
    }

abbrev pub site_record : List ℕ → ℕ → Site
site_record bs i = site_from bs (site_start bs i)

abbrev pub site_number : List ℕ → ℕ → ℕ
site_number bs i = pair_at bs (site_start bs i)

-- a line record: its number, and the numbers of its first site and of its second
abbrev pub line_number : List ℕ → ℕ → ℕ
line_number bs j = pair_at bs (line_start bs j)

abbrev pub named_first : List ℕ → ℕ → ℕ
named_first bs j = pair_at bs (line_start bs j + 2)

abbrev pub named_second : List ℕ → ℕ → ℕ
named_second bs j = pair_at bs (line_start bs j + 4)

-- the numbers of n records that follow one another at a distance
unfoldable pub numbers_from : List ℕ → ℕ → ℕ → ℕ → List ℕ
numbers_from bs start step n = map (λ i. pair_at bs (start + step * i)) (range_with_len 0 n)

abbrev pub site_numbers : List ℕ → List ℕ
site_numbers bs = numbers_from bs (site_offset bs) 8 (site_count bs)

abbrev pub line_numbers : List ℕ → List ℕ
line_numbers bs = numbers_from bs (line_offset bs) 6 (line_count bs)

-- a size that records have: two bytes at least, which are the number, and at most eight
abbrev pub IsRecordSize : ℕ → Type 0
IsRecordSize n = (2 ≤ n) × (n ≤ 8)

-- the bytes of n records of one size that follow one another
unfoldable pub records_from : List ℕ → ℕ → ℕ → ℕ → List (List ℕ)
records_from bs start size n = map (λ i. take size (drop (start + size * i) bs)) (range_with_len 0 n)

abbrev pub site_records : List ℕ → List (List ℕ)
site_records bs = records_from bs (site_offset bs) 8 (site_count bs)

abbrev pub line_records : List ℕ → List (List ℕ)
line_records bs = records_from bs (line_offset bs) 6 (line_count bs)

-- the numbers of records, each in the first two bytes of its record
abbrev pub numbers_of : List (List ℕ) → List ℕ
numbers_of rs = map (λ r. pair_at r 0) rs
