use Rattle.std.proofs.Common.{◌<◌, ◌≤◌, rules, ◌∙◌}
use borrow.Author.Tests.{tests}
use Rattle.std.proofs.lemmas.Iterator.{first_from_Range}
use Rattle.cuttree.specs.Trees.{lightest}
use Rattle.cuttree.proofs.Listing.{lowest_found}
use Rattle.cuttree.proofs.tree.Tree.lowest_near.Goals as goal

pub returns : goal.returns
returns c =
    let tree = c.args.self.now in
    let both = lowest_found tree c.args.k c.args.x c.find.result c.requires
    (first_from_Range _ _ _ c.find.result (λ y. c.args.k ≤ lightest tree c.args.x y) (λ y. lightest tree c.args.x y < c.args.k) c.find.ensures.ran
    (λ y q k. search (rules, tests)) (λ y q k. search (rules, tests))) in
    record { is = c.unwrap_or.ensures ∙ both.0; low = rw c.unwrap_or.ensures both.1 }
