use Rattle.std.proofs.Common.{◌≡◌, true, false, length, rules}
use Rattle.std.proofs.lemmas.Iterator.{first_from_Range}
use Rattle.netfile.specs.Search.{stands_at}
use Rattle.netfile.proofs.Lowest.{lowest_in_range}
use Rattle.netfile.proofs.numbered.find.Goals as goal

pub returns : goal.returns
returns g c =
    let ns = g.T.Numbered.numbers c.args.records.now in
    let stands = stands_at ns c.args.number in
    lowest_in_range stands c.count.result (length ns) c.find.result c.count.ensures
    (first_from_Range _ _ _ c.find.result (λ i. stands i ≡ true) (λ i. stands i ≡ false) c.find.ensures.ran (λ i f k. search rules) (λ i f k. search rules))
