use Rattle.std.proofs.Common.{◌≡◌, ◌+◌, ◌<◌, ◌∷◌, length, sym, ap, arith, length-set, rules}
use Rattle.network.specs.Sides.{size_below}
use Rattle.network.proofs.Levels.{level_le_length}
use Rattle.cuttree.specs.Splits.{part}
use Rattle.cuttree.proofs.Sizes.{size_one}
use Rattle.cuttree.proofs.Joining.{stands_done, stands_split, near_within, far_within, halves}
use Rattle.cuttree.proofs.builder.+grow.Goals as goal

pub returns-in_default : goal.returns-in_default
returns-in_default g t c =
    let p = c.args.pending in
    let net = c.args.net.now in
    let alone = c.in_default.ensures in
    record {
      count = ap (◌+◌ c.args.joined) (sym (size_one net.sites p.available p.source (c.requires.within p.source p.held) p.held alone));
      joins = λ ps. stands_done net.sites net.lines.now (part p.available p.source) ps c.args.joined c.args.nodes.now alone;
    }

pub joined-requires-clause-light : goal.joined-requires-clause-light
joined-requires-clause-light g t c =
    let net = c.args.net.now in
    omega (arith, c.flow_to-flow.ensures.level, net.few_lines, level_le_length net.sites net.lines.now c.args.pending.source c.in-Some.t)

pub grow-inside-requires : goal.grow-inside-requires
grow-inside-requires g t c κs within =
    let net = c.args.net.now in
    let two = halves c.split.ensures c.requires.within net.lines.now _ c.args.pending.held c.in-Some.ensures c.flow_to-flow.ensures.parted in
    let left = c.requires.left in
    let all = two.all in let near-some = two.some_near in let far_some = two.some_far in
    let less : size_below net.sites c.split.result.0.available < size_below net.sites c.args.pending.available = omega arith in
    (search rules, (within, (near_within c.split.ensures c.requires.within, omega arith)))

pub grow-requires : goal.grow-requires
grow-requires g t c κs within =
    let net = c.args.net.now in
    let two = halves c.split.ensures c.requires.within net.lines.now _ c.args.pending.held c.in-Some.ensures c.flow_to-flow.ensures.parted in
    let left = c.requires.left in let count = c.grow-inside.ensures.count in
    let all = two.all in let near-some = two.some_near in let far_some = two.some_far in
    let less : size_below net.sites c.split.result.1.available < size_below net.sites c.args.pending.available = omega arith in
    (search rules, (within, (far_within c.split.ensures c.requires.within, omega arith)))

pub returns : goal.returns
returns g t c =
    let net = c.args.net.now in
    let p = c.args.pending in
    let two = halves c.split.ensures c.requires.within net.lines.now _ p.held c.in-Some.ensures c.flow_to-flow.ensures.parted in
    let all = two.all in let first = c.grow-inside.ensures.count in let second = c.grow.ensures.count in
    let low = c.requires.within c.in-Some.t c.in-Some.ensures.waits in
    let root = c.requires.within p.source p.held in
    let room : length c.args.nodes.now ≡ 64 = omega (arith, length-set c.args.nodes.now c.in-Some.t c.joined.result) in
    record {
      count = omega arith;
      joins = λ ps st. c.grow.ensures.joins ps (c.grow-inside.ensures.joins (part c.split.result.1.available c.split.result.1.source ∷ ps)
          (stands_split net.sites net.lines.now (part p.available p.source) c.in-Some.t c.flow_to-flow.result.value c.flow_to-flow.result.side
          (part c.split.result.0.available c.split.result.0.source) (part c.split.result.1.available c.split.result.1.source) (omega arith) net.joined c.in-Some.ensures c.flow_to-flow.ensures.level c.flow_to-flow.ensures.parted c.split.ensures
          ps c.args.joined c.source.result c.args.nodes.now c.joined.result (omega (arith, net.few_sites)) c.joined.ensures c.source.ensures st));
    }
