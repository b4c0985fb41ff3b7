-- What the reader takes a line record for, and the line that it makes of it.
use Rattle.std.specs.Prelude.{ℕ, ◌+◌, List}
use Rattle.netfile.specs.declared.records.LineRecord.{LineRecord}
use Rattle.network.specs.declared.line.Line.{Line}
use Rattle.network.specs.declared.line.LineState.TheVariants.{Free}
use Rattle.netfile.specs.Layout.{pair_at}
use Rattle.netfile.specs.Search.{position_of}
use Rattle.netfile.specs.Meaning.{or_zero}

-- a line record from its first byte on
abbrev pub named_from : List ℕ → ℕ → LineRecord
named_from bs k = record { number = pair_at bs k; first_named = pair_at bs (k + 2); second_named = pair_at bs (k + 4) }

-- the line of such a record, among sites of these numbers
abbrev pub line_from : List ℕ → LineRecord → Line
line_from ns r =
    record {
      number = r.number;
      first = or_zero (position_of ns r.first_named);
      second = or_zero (position_of ns r.second_named);
      state = Free;
    }
