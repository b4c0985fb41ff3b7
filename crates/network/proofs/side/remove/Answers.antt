use Rattle.std.proofs.Common.{not, ◌&&◌, ap, ◌∙◌, arith}
use Rattle.network.specs.Sides.{member}
use Rattle.network.proofs.Digits.{without_alone}
use Rattle.network.proofs.side.remove.Goals as goal

pub returns : goal.returns
returns c i =
    c.difference.ensures.places i ∙ ap (λ t. member c.args.side i && not t) (c.alone.ensures.places i)
    ∙ without_alone c.args.side c.args.place i (omega arith)
