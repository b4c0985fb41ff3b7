use Rattle.std.proofs.Common.{◌≡◌, ◌<◌, ◌≤◌, ℕ, List, length, Some, arith, rules}
use Rattle.netfile.specs.Search.{position_of, stands_at}
use Rattle.netfile.proofs.Lowest.{lowest_is}
use Rattle.netfile.proofs.file.place_in.Goals as goal

small : (ns : List ℕ) (n p : ℕ) → length ns ≤ 64 → position_of ns n ≡ Some p → p < 256
small ns n p few e = omega (arith, few, (lowest_is (stands_at ns n) (length ns) p e).within)

pub returns : goal.returns
returns g c =
    let s = small (g.T.Numbered.numbers c.args.sites.now) c.args.number in search rules
