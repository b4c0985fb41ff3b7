use Rattle.std.proofs.lemmas.Bool.{both_ways}
use Rattle.routes.proofs.Balances.{fit_sized}
use Rattle.routes.proofs.marking.Marking.fit_pair.Goals as goal

pub returns-then-not-is_sized-clause-none : goal.returns-then-not-is_sized-clause-none
returns-then-not-is_sized-clause-none c =
    λ fit. both_ways c.is_sized.result c.if-not-is_sized.true (c.is_sized.ensures.1 (fit_sized c.args.self.now c.args.k fit))
