use Rattle.std.proofs.Common.{◌≡◌, [], true, false, rules}
use Rattle.std.proofs.lemmas.Iterator.{IsFirst-from_position, YieldsList-from_slice}
use Rattle.netfile.specs.Layout.{numbers_of}
use Rattle.netfile.proofs.Lowest.{lowest_in_list}
use Rattle.netfile.proofs.PartFaults.{unjoined, unjoined_first}
use Rattle.netfile.proofs.network_checks.first_unjoined.Goals as goal

pub returns : goal.returns
returns c =
    let p = c.args.parts.now in
    let rs = p.lines.records.now in
    let wrong = unjoined p (numbers_of p.sites.records.now) in
    unjoined_first p c.position.result
    (lowest_in_list wrong rs [] c.position.result
    (IsFirst-from_position _ _ c.position.result (λ r. wrong r ≡ true) (λ r. wrong r ≡ false) c.position.ensures.ran (YieldsList-from_slice rs cc) (λ r f k. search rules) (λ r f k. search rules)))
