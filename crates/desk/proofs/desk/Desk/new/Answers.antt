use Rattle.network.proofs.Lists.{every_none, distinct_none}
use Rattle.desk.proofs.desk.Desk.new.Goals as goal

pub invariant_of-result : goal.invariant_of-result
invariant_of-result g c =
    let p = c.in_ok-passes.ensures in
    record { room = p.1; marked = simp p.0 (every_none _); standing = simp p.0 (every_none _); apart = simp p.0 distinct_none }
