use Rattle.std.proofs.Common.{◌-◌, ◌^◌, min, ap, ◌∙◌}
use Rattle.network.proofs.Digits.{ones_places}
use Rattle.network.proofs.side.all_below.Goals as goal

pub returns-clause-places : goal.returns-clause-places
returns-clause-places c =
    ones_places (min c.args.sites 64) c.lowest_set.result (c.lowest_set.ensures ∙ ap (λ k. 2 ^ k - 1) c.min.ensures)
