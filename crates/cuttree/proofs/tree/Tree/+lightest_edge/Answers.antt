use Rattle.std.proofs.Common.{ℕ, sym, ap, ◌∙◌}
use Rattle.cuttree.proofs.Climbing.{lightest_here, lightest_on}
use Rattle.cuttree.proofs.Rooting.{tree_rooted, two_parts}
use Rattle.cuttree.proofs.tree.Tree.+lightest_edge.Goals as goal

pub returns-then-up-early : goal.returns-then-up-early
returns-then-up-early t c =
    let tree = c.args.self.now in
    let two = two_parts tree.sites c.args.a c.args.b c.requires.two in
    lightest_here tree.sites tree.nodes (tree_rooted tree) c.args.a c.args.b _ _ two.0 two.1 two.2
    (ap (λ (p : ℕ × ℕ). p.0) c.by_joining-late.ensures) (ap (λ (p : ℕ × ℕ). p.1) c.by_joining-late.ensures) (sym c.from-up.ensures ∙ c.if-up-early.true)

pub returns : goal.returns
returns t c =
    let tree = c.args.self.now in
    let two = two_parts tree.sites c.args.a c.args.b c.requires.two in
    let on = lightest_on tree.sites tree.nodes (tree_rooted tree) c.args.a c.args.b _ _ two.0 two.1 two.2
    (ap (λ (p : ℕ × ℕ). p.0) c.by_joining-late.ensures) (ap (λ (p : ℕ × ℕ). p.1) c.by_joining-late.ensures) (λ e. c.if-up-early.false (c.from-up.ensures ∙ e)) in
    cc
