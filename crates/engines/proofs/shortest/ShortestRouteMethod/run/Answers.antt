use Rattle.std.proofs.Common.{◌≡◌, ◌+◌, ◌≤◌, refl, ◌∙◌, length, arith}
use Rattle.network.specs.Flow.{Balanced}
use Rattle.engines.proofs.Cuts.{answered, value_le, all_unused, none_balanced, none_marked}
use Rattle.engines.proofs.Walks.{sent_balanced}
use Rattle.engines.proofs.shortest.ShortestRouteMethod.run.Goals as goal
use Rattle.engines.proofs.shortest.ShortestRouteMethod.run.Goals.{After-augment}

pub units-init : goal.units-init
units-init c =
    let q = c.args.hand.now.pair in
    let ms = c.clear_marks.new.marks in
    let unused = all_unused ms c.clear_marks.ensures in (
      record { pair = refl; marks = refl; work = refl },
      record { marked = none_marked q.net.lines.now ms unused; balanced = none_balanced q.net.lines.now ms q.a q.b unused },
    )

-- the hand from the start to the search of a round
same_found : (c : After-augment) → c.search.new.self.pair ≡ c.args.hand.now.pair
same_found c = c.search.ensures.same.pair ∙ c.units.invariant.0.pair

more : (c : After-augment) → Balanced c.args.hand.now.pair.net.lines.now c.augment.new.self.marks.now c.args.hand.now.pair.a c.args.hand.now.pair.b (c.units.value + 1)
more c =
    let q = c.args.hand.now.pair in
    sent_balanced q.net.lines.now c.search.new.self.marks.now c.augment.new.self.marks.now q.a q.b c.units.value
    (rw (← same_found c) c.augment.ensures.sent) (rw c.search.ensures.marks c.units.invariant.1.balanced)

-- each unit takes a line of its own at a
room : (c : After-augment) → c.units.value + 1 ≤ length c.args.hand.now.pair.net.lines.now
room c =
    let q = c.args.hand.now.pair in
    value_le q.net.lines.now c.augment.new.self.marks.now q.a q.b (c.units.value + 1) (more c) q.apart

pub units-smaller : goal.units-smaller
units-smaller c = omega (arith, room (goal.at.units-smaller c).After-augment)

pub overflow_add-value : goal.overflow_add-value
overflow_add-value c = omega (arith, room (goal.at.overflow_add-value c).After-augment, c.args.hand.now.pair.net.few_lines)

pub returns-clause-flows : goal.returns-clause-flows
returns-clause-flows c =
    let h = c.args.hand.now in
    let after = c.search.new.self in
    let same : after.pair ≡ h.pair = c.search.ensures.same.pair ∙ c.units.invariant.0.pair in
    rw (← same)
    (answered after h.marks.now c.units.value c.side_seen.result (rw same h.marked)
    (rw (same, c.search.ensures.marks) c.units.invariant.1.marked) (rw (same, c.search.ensures.marks) c.units.invariant.1.balanced)
    (rw (c.search.ensures.same.pair, c.search.ensures.marks) c.units-test.ensures.found) c.side_seen.ensures.within c.side_seen.ensures.places)
