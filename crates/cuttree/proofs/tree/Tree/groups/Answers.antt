use Rattle.std.proofs.Common.{◌≡◌, ℕ, ◌+◌, cond, eqb, List, ◌++◌, length, take, drop, set, sym, refl, ap, ◌∙◌, ap₂, arith}
use Rattle.std.proofs.lemmas.List.{length-take}
use Rattle.std.proofs.lemmas.Bool.Decides.{nat_tests}
use Rattle.network.specs.Groups.{tally}
use Rattle.cuttree.specs.Trees.{lowest_in, is_lowest_in, list_in, count_in}
use Rattle.cuttree.proofs.Listing.{filled_more, filled_whole, tally_none, tally_more, one_at_most, groups_are}
use Rattle.cuttree.proofs.tree.Tree.groups.Goals as goal
use Rattle.cuttree.proofs.tree.Tree.groups.Goals.{then-low-x, else-low-x}

pub loop-x-init : goal.loop-x-init
loop-x-init c = (refl, sym (tally_none (is_lowest_in c.args.self.now c.args.k)), omega arith)

pub loop-x-preserved : goal.loop-x-preserved
loop-x-preserved c =
    let x = c.loop-x.x in
    let tree = c.args.self.now in
    let f = lowest_in tree c.args.k in
    let P = is_lowest_in tree c.args.k in
    let is : c.lowest_near-low.result ≡ f x = c.lowest_near-low.ensures.is in
    let written = ap₂ (λ (xs : List ℕ) (v : ℕ). set xs x v) c.loop-x.invariant.0 is ∙ filled_more f (take tree.sites c.args.list.now) x c.loop-x-test.true in
    let one_more : c.if-low-x.count ≡ cond (eqb c.lowest_near-low.result x) 1 0 + c.loop-x.count = elim c.if-low-x.branch [
      | then-low-x w ↦ grind (arith, nat_tests)
      | else-low-x w ↦ grind (arith, nat_tests)
    ] in
    let more : c.if-low-x.count ≡ tally P (x + 1) =
    one_more ∙ ap₂ (λ (low c : ℕ). cond (eqb low x) 1 0 + c) is c.loop-x.invariant.1 ∙ sym (tally_more P x) in
    (written, more, omega (arith, c.loop-x.invariant.2, one_at_most (eqb c.lowest_near-low.result x), one_more))

pub returns : goal.returns
returns c =
    let tree = c.args.self.now in
    let k = c.args.k in
    let whole : length (take tree.sites c.args.list.now) ≡ tree.sites = simp length-take (omega arith) in
    let all : c.loop-x.x ≡ tree.sites = omega arith in
    let entries : c.loop-x.entries ≡ list_in tree k =
    c.loop-x.invariant.0 ∙ filled_whole (lowest_in tree k) (take tree.sites c.args.list.now) c.loop-x.x tree.sites all (omega arith) in
    let written : c.loop-x.entries ++ drop tree.sites c.args.list.now ≡ list_in tree k ++ drop tree.sites c.args.list.now =
    ap (λ (xs : List ℕ). xs ++ drop tree.sites c.args.list.now) entries in
    let counted : c.loop-x.count ≡ count_in tree k = c.loop-x.invariant.1 ∙ ap (tally (is_lowest_in tree k)) all in
    record {
      told = (omega arith, written, counted);
      network = λ n ls of. groups_are n ls tree k of c.args.list.now _ c.loop-x.count written counted;
    }
