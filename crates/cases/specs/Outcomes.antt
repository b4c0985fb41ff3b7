-- What the worked calls come to.
use Rattle.std.specs.Prelude.{◌≡◌, ℕ, true, ◌≢◌, List, slice_index, codes}
use Rattle.network.specs.declared.line.LineState.TheVariants.{Free}
use Rattle.network.specs.Answers.{PartedBy}
use Rattle.network.specs.declared.engine.Flow.{Flow}
use Rattle.cases.specs.declared.outcome.Outcome.{Outcome}
use Rattle.cases.specs.declared.outcome.CallFault.{CallFault}
use Rattle.cases.specs.declared.outcome.CallFault.TheVariants.{OutOfMemory, Denied}
use Rattle.cases.specs.Table.{worked}

-- four routes from 10 to 20 are too few: three lines cross the side that is shown, which holds 10 and not 20
abbrev pub FourDenied : Flow → Type 0
FourDenied f = (f.value ≡ 3) × PartedBy 4 (worked Free) 0 1 3 f.side

-- with three routes booked only 30 and 40 share a group at level 1: only they have one entry
pub record OnlyPair (es : List ℕ) : Type 0 where
  pub one_30_40 : slice_index es 2 ≡ slice_index es 3
  pub two_10_20 : slice_index es 0 ≢ slice_index es 1
  pub two_10_30 : slice_index es 0 ≢ slice_index es 2
  pub two_20_30 : slice_index es 1 ≢ slice_index es 2

pub record Happened (o : Outcome) : Type 0 where
  pub entries : OnlyPair o.entries
  -- the booking still stood
  pub released : o.released ≡ true
  pub four_denied : FourDenied o.four_denied

-- what is written of calls that came to no outcome
abbrev pub fault_words : CallFault → List ℕ
fault_words OutOfMemory = codes "memory allocation failed"
fault_words (Denied f) = codes "the line book denied a call"
