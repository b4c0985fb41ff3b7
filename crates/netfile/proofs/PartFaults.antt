-- What the checks of the records find in the two parts is what the file's bytes have.
use Rattle.std.proofs.Common.{◌≡◌, ℕ, ◌<◌, Bool, not, List, [], length, take, drop, get_or, Some, Option, ap, ◌∙◌, arith}
use Rattle.netfile.specs.declared.parts.Parts.{Parts}
use Rattle.netfile.specs.Layout.{numbers_of, site_offset, line_offset, site_count, line_count, line_start, site_numbers, line_numbers}
use Rattle.netfile.specs.declared.records.LineRecord.{LineRecord}
use Rattle.netfile.specs.Records.{named_from}
use Rattle.netfile.specs.Search.{lowest_where}
use Rattle.netfile.specs.Meaning.{order_fault, joins_two, wrong_ends}
use Rattle.netfile.proofs.Lowest.{lowest_is, lowest_same}
use Rattle.netfile.proofs.Chunks.{numbers_of_records, length_records, record_there, line_read}

module _ (p : Parts) where
  pub sites_numbered : numbers_of p.sites.records.now ≡ site_numbers p.bytes.now
  sites_numbered =
      ap numbers_of p.sites_read ∙ numbers_of_records p.bytes.now (site_offset p.bytes.now) 8 (site_count p.bytes.now) (omega arith, omega arith)

  pub lines_numbered : numbers_of p.lines.records.now ≡ line_numbers p.bytes.now
  lines_numbered =
      ap numbers_of p.lines_read ∙ numbers_of_records p.bytes.now (line_offset p.bytes.now) 6 (line_count p.bytes.now) (omega arith, omega arith)

  pub sites_order : order_fault (numbers_of p.sites.records.now) p.sites.start 8 ≡ order_fault (site_numbers p.bytes.now) (site_offset p.bytes.now) 8
  sites_order = rw (sites_numbered, p.sites_start)

  pub lines_order : order_fault (numbers_of p.lines.records.now) p.lines.start 6 ≡ order_fault (line_numbers p.bytes.now) (line_offset p.bytes.now) 6
  lines_order = rw (lines_numbered, p.lines_start)

  pub lines_long : length p.lines.records.now ≡ line_count p.bytes.now
  lines_long =
      ap (λ (rs : List (List ℕ)). length rs) p.lines_read ∙ length_records p.bytes.now (line_offset p.bytes.now) 6 (line_count p.bytes.now)

  -- the bytes of a line record name ends that do not join two sites of these numbers
  abbrev pub unjoined : List ℕ → List ℕ → Bool
  unjoined ns r = not (joins_two ns (named_from r 0).first_named (named_from r 0).second_named)

  pub unjoined_there : (j : ℕ) → j < line_count p.bytes.now → unjoined (numbers_of p.sites.records.now) (get_or p.lines.records.now j []) ≡ wrong_ends p.bytes.now j
  unjoined_there j h =
      let bs = p.bytes.now in
      let here : get_or p.lines.records.now j [] ≡ take 6 (drop (line_start bs j) bs) =
      ap (λ (rs : List (List ℕ)). get_or rs j []) p.lines_read ∙ record_there bs (line_offset bs) 6 (line_count bs) j [] h in
      ap (λ (ns : List ℕ). unjoined ns (get_or p.lines.records.now j [])) sites_numbered ∙ ap (unjoined (site_numbers bs)) here ∙ ap (λ (l : LineRecord). not (joins_two (site_numbers bs) l.first_named l.second_named)) (line_read bs (line_start bs j))

  -- .. the first of which is the one that the file's bytes have
  pub unjoined_first : (o : Option ℕ) → o ≡ lowest_where (λ i. unjoined (numbers_of p.sites.records.now) (get_or p.lines.records.now i [])) (length p.lines.records.now) → o ≡ lowest_where (wrong_ends p.bytes.now) (line_count p.bytes.now)
  unjoined_first o e =
      e ∙ ap (lowest_where (λ i. unjoined (numbers_of p.sites.records.now) (get_or p.lines.records.now i []))) lines_long ∙ lowest_same _ (wrong_ends p.bytes.now) (line_count p.bytes.now) unjoined_there

  pub line_within : (j : ℕ) → lowest_where (wrong_ends p.bytes.now) (line_count p.bytes.now) ≡ Some j → j < length p.lines.records.now
  line_within j e =
      omega (arith, (lowest_is (wrong_ends p.bytes.now) (line_count p.bytes.now) j e).within, lines_long)
