use Rattle.std.proofs.Common.{map, sym, ◌∙◌}
use Rattle.std.proofs.lemmas.List.{length-map}
use Rattle.replies.specs.declared.listed.Routes.{Routes}
use Rattle.dowelsage.proofs.Counting.{walked}
use Rattle.dowelsage.proofs.showing.count_routes.Goals as goal

pub returns : goal.returns
returns c =
    let ran = c.count_given.ensures in
    let all : Routes = record { 0 = c.args.shown } in
    let held = walked _ (λ s. s.0.now) (λ route. route.now) (λ s r t g. g) ran.0 all ran.1.1.0 ran.1.0 ran.1.1.1 ran.1.1.2 in
    (map (λ route. route.now) ran.0, held, ran.2 ∙ sym (length-map ran.0 (λ route. route.now)))
