-- What the reader takes the header for.
use Rattle.std.specs.Prelude.{ℕ, List}
use Rattle.netfile.specs.declared.header.Header.{Header}
use Rattle.netfile.specs.Layout.{site_offset, site_length, line_offset, line_length}

abbrev pub header_in : List ℕ → Header
header_in bs =
    record {
      sites = record { start = site_offset bs; size = site_length bs };
      lines = record { start = line_offset bs; size = line_length bs };
    }
