use Rattle.std.proofs.Common.{◌≡◌, ℕ, eqb, rules}
use borrow.Author.Tests.{tests}
use Rattle.std.proofs.lemmas.Iterator.{IsFirst-from_position, YieldsList-from_slice, YieldsList-from_zip}
use Rattle.std.proofs.lemmas.Iterator.Consumers.{YieldsList-at}
use Rattle.network.specs.declared.line.Line.{Line}
use Rattle.network.specs.Flow.{arrives}
use Rattle.routes.proofs.Balances.{arrival_found, not_one}
use Rattle.routes.proofs.walking.arriving.Goals as goal

pub unwrap-requires : goal.unwrap-requires
unwrap-requires c =
    arrival_found c.args.place c.args.lines.now c.args.left.now c.position.result c.requires
    (IsFirst-from_position c.position.new.self _ c.position.result (λ (p : Line × ℕ). arrives (eqb c.args.place) p.0 p.1 ≡ 1) (λ (p : Line × ℕ). arrives (eqb c.args.place) p.0 p.1 ≡ 0)
    c.position.ensures.ran (YieldsList-from_zip (YieldsList-at c.zip.ensures.first (YieldsList-from_slice c.args.lines.now (cc))) (YieldsList-from_slice c.args.left.now (cc)))
    (λ x q k. search (rules, tests)) (λ x q k. search (rules, tests, not_one)))
