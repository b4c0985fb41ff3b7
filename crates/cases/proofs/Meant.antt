-- What the worked file means.
use Rattle.std.proofs.Common.{◌≡◌, ℕ, length, Some, None, refl}
use Rattle.network.specs.declared.line.LineState.TheVariants.{Free}
use Rattle.netfile.specs.Search.{lowest_where}
use Rattle.netfile.specs.Layout.{numbers_from}
use Rattle.netfile.specs.Meaning.{file_fault, ends_fault, first_fault, sites_in, lines_in}
use Rattle.book.specs.Calls.{place_in}
use Rattle.cases.specs.Table.{worked}
use Rattle.cases.specs.File.{worked_file}

pub no_fault : first_fault worked_file ≡ None
unfolding worked_file first_fault file_fault ends_fault lowest_where numbers_from
no_fault = refl

pub lines_meant : lines_in worked_file ≡ worked Free
unfolding worked_file lines_in lowest_where numbers_from
lines_meant = refl

pub four_sites : length (sites_in worked_file) ≡ 4
unfolding worked_file sites_in
four_sites = refl

-- where the sites are
abbrev pub At : ℕ → ℕ → Type 0
At x p = place_in (sites_in worked_file) x ≡ Some p

pub places : At 10 0 × At 20 1 × At 30 2 × At 40 3
unfolding worked_file sites_in lowest_where
places = (refl, refl, refl, refl)
