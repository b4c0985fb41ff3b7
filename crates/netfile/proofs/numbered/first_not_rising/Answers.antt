use Rattle.std.proofs.Common.{◌≡◌, true, false, length, rules}
use Rattle.std.proofs.lemmas.Iterator.{first_from_Range}
use Rattle.netfile.specs.Search.{falls_at}
use Rattle.netfile.proofs.Lowest.{lowest_in_range}
use Rattle.netfile.proofs.numbered.first_not_rising.Goals as goal

pub returns : goal.returns
returns g c =
    let ns = g.T.Numbered.numbers c.args.records.now in
    lowest_in_range (falls_at ns) c.count.result (length ns) c.find.result c.count.ensures
    (first_from_Range _ _ _ c.find.result (λ i. falls_at ns i ≡ true) (λ i. falls_at ns i ≡ false) c.find.ensures.ran (λ i f k. search rules) (λ i f k. search rules))
