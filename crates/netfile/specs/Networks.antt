-- What an accepted file holds: each site and line is what the bytes at its published place say.
use Rattle.std.specs.Prelude.{◌≡◌, ℕ, ◌+◌, ◌*◌, ◌<◌, ◌≤◌, List, length, Some, None, Option}
use Rattle.std.specs.List.{slice_get}
use Rattle.network.specs.declared.site.Site.{Site}
use Rattle.network.specs.declared.line.Line.{Line}
use Rattle.network.specs.declared.line.LineState.TheVariants.{Free}
use Rattle.network.specs.Lines.{AllJoin}
use Rattle.netfile.specs.declared.faults.NetworkFault.{NetworkFault}
use Rattle.netfile.specs.Faults.{number_of, place_of}
use Rattle.netfile.specs.Layout.{site_length, line_length, site_end, line_end, line_offset, site_count, line_count, site_record, site_number, line_number, named_first, named_second}
use Rattle.netfile.specs.Meaning.{first_fault, sites_in, lines_in}
use Rattle.netfile.specs.Checks.{Applies, First}

-- i is the one position of the site part at which the number n stands
abbrev pub PlaceOf : List ℕ → ℕ → ℕ → Type 0
PlaceOf bs n i =
    (i < site_count bs) × (site_number bs i ≡ n) × ((k : ℕ) → k < site_count bs → site_number bs k ≡ n → k ≡ i)

-- the line is what the line record at position j says
pub record LineSays (bs : List ℕ) (j : ℕ) (l : Line) : Type 0 where
  pub numbered : l.number ≡ line_number bs j
  pub from_place : PlaceOf bs (named_first bs j) l.first
  pub to_place : PlaceOf bs (named_second bs j) l.second
  pub apart : l.first ≡ l.second → ⊥
  pub unheld : l.state ≡ Free

pub record Holds (bs : List ℕ) : Type 0 where
  pub site_total : length (sites_in bs) ≡ site_count bs
  pub line_total : length (lines_in bs) ≡ line_count bs
  pub whole_sites : 8 * site_count bs ≡ site_length bs
  pub whole_lines : 6 * line_count bs ≡ line_length bs
  pub some_site : 1 ≤ length (sites_in bs)
  pub few_sites : length (sites_in bs) ≤ 64
  pub few_lines : length (lines_in bs) ≤ 512
  pub sites_first : site_end bs ≤ line_offset bs
  pub within : line_end bs ≤ length bs
  pub each_site : (i : ℕ) (s : Site) → slice_get (sites_in bs) i ≡ Some s → s ≡ site_record bs i
  pub each_line : (j : ℕ) (l : Line) → slice_get (lines_in bs) j ≡ Some l → LineSays bs j l
  pub sites_rise : (i : ℕ) → i + 1 < site_count bs → site_number bs i < site_number bs (i + 1)
  pub lines_rise : (j : ℕ) → j + 1 < line_count bs → line_number bs j < line_number bs (j + 1)
  pub joined : AllJoin (length (sites_in bs)) (lines_in bs)

-- what an opening that found this fault, or none, says of the bytes
abbrev pub Judged : List ℕ → Option NetworkFault → Type 0
Judged bs None = ((n p : ℕ) → Applies n bs p → ⊥) × Holds bs
Judged bs (Some e) = First bs (number_of e) (place_of e)

-- every accepted file holds such a network
abbrev pub AllHold : Type 0
AllHold = (bs : List ℕ) → first_fault bs ≡ None → Holds bs
