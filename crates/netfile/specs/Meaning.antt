-- What a list of bytes means: the first fault in checking order, or the sites and lines of a network.
use Rattle.std.specs.Prelude.{ℕ, ◌+◌, ◌*◌, ◌/◌, ◌%◌, Bool, cond, not, ◌&&◌, List, map, length, is_some, Some, None, Ok, Err, Option, Result, ◌==◌, nat_le, slice_index}
use Rattle.std.specs.List.{range_with_len}
use Rattle.network.specs.declared.site.Site.{Site}
use Rattle.network.specs.declared.line.Line.{Line}
use Rattle.network.specs.declared.line.LineState.TheVariants.{Free}
use Rattle.netfile.specs.declared.faults.FileFault.{FileFault}
use Rattle.netfile.specs.declared.faults.FileFault.TheVariants.{Size, Signature, Edition, PairCount, PartBounds, PartLength}
use Rattle.netfile.specs.declared.faults.RecordFault.{RecordFault}
use Rattle.netfile.specs.declared.faults.RecordFault.TheVariants.{File, NotRising}
use Rattle.netfile.specs.declared.faults.NetworkFault.{NetworkFault}
use Rattle.netfile.specs.declared.faults.NetworkFault.TheVariants.{Record, Ends}
use Rattle.netfile.specs.Search.{or_else, lowest_where, position_of, first_fall}
use Rattle.netfile.specs.Layout.{site_offset, site_length, line_offset, line_length, site_end, site_count, line_count, site_record, site_numbers, line_numbers, line_number, named_first, named_second}

-- the fault in a result
abbrev pub fault_in : {X E : Type 0} → Result X E → Option E
fault_in (Ok x) = None
fault_in (Err e) = Some e

-- the fault, unless the test holds
abbrev pub unless : {E : Type 0} → Bool → E → Option E
unless t e = cond t None (Some e)

-- a lower layer's fault, carried whole in the upper one's
abbrev pub carried : {D E : Type 0} → (D → E) → Option D → Option E
carried w None = None
carried w (Some e) = Some (w e)

-- the fault at the first byte of the record at a position, if there is one
abbrev pub at_record : {E : Type 0} → (ℕ → E) → ℕ → ℕ → Option ℕ → Option E
at_record w start step None = None
at_record w start step (Some i) = Some (w (start + step * i))

abbrev pub size_fault : List ℕ → Option FileFault
size_fault bs = unless (nat_le 14 (length bs) && nat_le (length bs) 8192) Size

-- 4C 4E 45 54
abbrev pub signature_fault : List ℕ → Option FileFault
signature_fault bs =
    unless (slice_index bs 0 == 76 && (slice_index bs 1 == 78 && (slice_index bs 2 == 69 && slice_index bs 3 == 84))) Signature

abbrev pub edition_fault : List ℕ → Option FileFault
edition_fault bs = unless (slice_index bs 4 == 1) Edition

abbrev pub pair_count_fault : List ℕ → Option FileFault
pair_count_fault bs = unless (slice_index bs 5 == 2) PairCount

-- a part that starts too early, or that ends past the file; its pair stands at the place p
abbrev pub bounds_fault : ℕ → ℕ → ℕ → ℕ → ℕ → Option FileFault
bounds_fault p earliest start size all = unless (nat_le earliest start && nat_le (start + size) all) (PartBounds p)

abbrev pub parts_fault : List ℕ → Option FileFault
parts_fault bs =
    or_else (bounds_fault 6 14 (site_offset bs) (site_length bs) (length bs))
    (bounds_fault 10 (site_end bs) (line_offset bs) (line_length bs) (length bs))

-- n bytes are not those of as many records of one size as a part may have; the part's length stands at the place p
abbrev pub length_fault : ℕ → ℕ → ℕ → ℕ → ℕ → Option FileFault
length_fault p size fewest most n =
    unless (nat_le fewest (n / size) && (nat_le (n / size) most && n % size == 0)) (PartLength p)

-- one to 64 site records, and at most 512 line records
abbrev pub site_length_fault : ℕ → Option FileFault
site_length_fault n = length_fault 8 8 1 64 n

abbrev pub line_length_fault : ℕ → Option FileFault
line_length_fault n = length_fault 12 6 0 512 n

abbrev pub lengths_fault : List ℕ → Option FileFault
lengths_fault bs = or_else (site_length_fault (site_length bs)) (line_length_fault (line_length bs))

-- the file layer's checks, in their order
unfoldable pub file_fault : List ℕ → Option FileFault
file_fault bs =
    or_else (size_fault bs)
    (or_else (signature_fault bs)
    (or_else (edition_fault bs)
    (or_else (pair_count_fault bs)
    (or_else (parts_fault bs)
    (lengths_fault bs)))))

-- the first record of a part whose number is not above the one before it
abbrev pub order_fault : List ℕ → ℕ → ℕ → Option RecordFault
order_fault ns start step = at_record (λ p. NotRising p) start step (first_fall ns)

-- the record layer's check, over the site part and then over the line part
abbrev pub rising_fault : List ℕ → Option RecordFault
rising_fault bs =
    or_else (order_fault (site_numbers bs) (site_offset bs) 8)
    (order_fault (line_numbers bs) (line_offset bs) 6)

-- both named sites are there, and they are not the same
abbrev pub joins_two : List ℕ → ℕ → ℕ → Bool
joins_two ns f s = is_some (position_of ns f) && (is_some (position_of ns s) && not (f == s))

abbrev pub wrong_ends : List ℕ → ℕ → Bool
wrong_ends bs j = not (joins_two (site_numbers bs) (named_first bs j) (named_second bs j))

-- the network layer's check: the first line record that does not join two sites of the file
unfoldable pub ends_fault : List ℕ → Option NetworkFault
ends_fault bs = at_record (λ p. Ends p) (line_offset bs) 6 (lowest_where (wrong_ends bs) (line_count bs))

-- the faults of file and records, in their order
abbrev pub record_fault : List ℕ → Option RecordFault
record_fault bs = or_else (carried (λ e. File e) (file_fault bs)) (rising_fault bs)

-- the first fault in checking order
unfoldable pub first_fault : List ℕ → Option NetworkFault
first_fault bs = or_else (carried (λ e. Record e) (record_fault bs)) (ends_fault bs)

-- the sites of an accepted file, in the order of their records: a site's place is its position here
unfoldable pub sites_in : List ℕ → List Site
sites_in bs = map (site_record bs) (range_with_len 0 (site_count bs))

abbrev pub or_zero : Option ℕ → ℕ
or_zero None = 0
or_zero (Some i) = i

-- the place of the site of a number
abbrev pub site_place : List ℕ → ℕ → ℕ
site_place bs n = or_zero (position_of (site_numbers bs) n)

-- the line of a record: it joins the places of the sites that the record names, and is free
abbrev pub line_record : List ℕ → ℕ → Line
line_record bs j =
    record {
      number = line_number bs j;
      first = site_place bs (named_first bs j);
      second = site_place bs (named_second bs j);
      state = Free;
    }

-- the lines of an accepted file, in the order of their records
unfoldable pub lines_in : List ℕ → List Line
lines_in bs = map (line_record bs) (range_with_len 0 (line_count bs))
