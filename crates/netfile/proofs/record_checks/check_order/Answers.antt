use Rattle.std.proofs.Common.{◌<◌, length, sym, arith}
use Rattle.std.proofs.lemmas.List.{length-map}
use Rattle.netfile.specs.Layout.{pair_at, numbers_of}
use Rattle.netfile.specs.Search.{falls_at}
use Rattle.netfile.proofs.Lowest.{lowest_is}
use Rattle.netfile.proofs.record_checks.check_order.Goals as goal

pub place_of-requires : goal.place_of-requires
place_of-requires g c =
    let rs = c.args.part.now.records.now in
    let within : c.in-Some.i < length (numbers_of rs) =
    (lowest_is (falls_at (numbers_of rs)) (length (numbers_of rs)) c.in-Some.i (sym c.in-Some.ensures)).within in
    (omega arith, omega (arith, length-map rs (λ r. pair_at r 0)))
