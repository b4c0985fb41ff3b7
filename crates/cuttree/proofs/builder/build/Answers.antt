use Rattle.std.proofs.Common.{◌≡◌, ℕ, ◌-◌, ◌^◌, ◌<◌, min, replicate, List, sym, refl, ap, ◌∙◌, subst, arith}
use Rattle.std.proofs.lemmas.Bool.{lt-ltb, ltb-true}
use Rattle.network.specs.declared.line.Line.{Line}
use Rattle.network.specs.Sides.{member, size_below}
use Rattle.cuttree.specs.Trees.{Lawful}
use Rattle.cuttree.proofs.Sizes.{size_whole}
use Rattle.cuttree.proofs.Rooting.{two_parts}
use Rattle.cuttree.proofs.Building.{all_of, empty_node, Complete, complete}
use Rattle.cuttree.proofs.Hanging.{lightest_is_level}
use Rattle.cuttree.proofs.builder.build.Goals as goal
use Rattle.cuttree.proofs.builder.build.Goals.{After-grow}

pub new-whole-requires : goal.new-whole-requires
new-whole-requires g c =
    let some : 0 < min c.args.sites 64 = omega arith in
    c.all_below.ensures.places 0 ∙ lt-ltb 0 (min c.args.sites 64) some

pub grow-requires : goal.grow-requires
grow-requires g c =
    let net = c.in_ok-net.net in
    let sites : net.sites ≡ c.args.sites = c.in_ok-net.ensures.made.0 in
    let all = all_of net.few_sites c.new-whole.ensures.0 (c.all_below.ensures.bits ∙ ap (λ n. 2 ^ min n 64 - 1) (sym sites)) in
    let size : size_below net.sites c.new-whole.result.available ≡ net.sites = ap (size_below net.sites) all ∙ size_whole net.sites in
    record {
      within = λ x h. (let low : x < min c.args.sites 64 = ltb-true x _ (sym (c.all_below.ensures.places x) ∙ ap (λ (s : ℕ). member s x) (sym c.new-whole.ensures.0) ∙ h) in omega arith);
      left = omega arith;
    }

-- the table that the function ends with
whole : (g : _) (c : After-grow g) → Complete c.args.sites c.args.lines.now c.grow.new.nodes
whole g c =
    let net = c.in_ok-net.net in
    let made = c.in_ok-net.ensures.made in
    let lawful : Lawful net.sites net.lines.now = record {
      some_site = omega (arith, made.0);
      fits = record { few_sites = net.few_sites; few_lines = net.few_lines; joined = net.joined };
    } in
    let all = all_of net.few_sites c.new-whole.ensures.0 (c.all_below.ensures.bits ∙ ap (λ n. 2 ^ min n 64 - 1) (sym made.0)) in
    let done = complete (replicate 64 c.default-nodes.result) c.grow.new.nodes lawful c.new-whole.ensures.1 all
    (empty_node c.default-nodes.result c.default-nodes.ensures) c.grow.ensures.joins in
    subst (λ (ls : List Line). Complete c.args.sites ls c.grow.new.nodes) made.1 (subst (λ (n : ℕ). Complete n net.lines.now c.grow.new.nodes) made.0 done)

pub invariant_of-result : goal.invariant_of-result
invariant_of-result g c =
    let w = whole g c in
    record { few = w.lawful.fits.few_sites; inside = w.table.rooted.inside; falls = w.table.rooted.falls; root = w.table.rooted.root }

pub returns : goal.returns
returns g c =
    let w = whole g (goal.at.returns g c).After-grow in (
      w.lawful,
      record {
        spans = refl;
        levels = λ x y h. (let two = two_parts c.args.sites x y h in
            lightest_is_level c.args.sites c.args.lines.now c.grow.new.nodes w.lawful.fits.joined w.table x y two.0 two.1 two.2);
        splits = ∣ w.by_splits ∣₁;
      },
    )
