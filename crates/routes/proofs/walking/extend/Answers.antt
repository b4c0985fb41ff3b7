use Rattle.std.proofs.Common.{◌≡◌, ◌+◌, ◌-◌, MatchOption, rules}
use borrow.Author.Tests.{tests}
use Rattle.std.proofs.lemmas.List.{take_rest}
use Rattle.routes.proofs.Ways.{way_extended}
use Rattle.routes.proofs.walking.extend.Goals as goal

pub returns-clause-led : goal.returns-clause-led
returns-clause-led c =
    let at : MatchOption c.find_stop-stop.result (c.map_or.result ≡ c.args.top - 1) (λ i. c.map_or.result ≡ c.args.top + i) = search (rules, tests) in
    way_extended c.args.net.now.lines.now c.args.place c.args.start c.args.line c.args.path.now _ c.args.top c.map_or.result c.find_stop-stop.result
    (take_rest c.args.path.now c.args.top) c.requires.space c.requires.within c.requires.inside c.requires.touching c.requires.leading c.find_stop-stop.ensures at
