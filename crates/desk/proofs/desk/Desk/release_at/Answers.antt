use Rattle.std.proofs.Common.{vec_items, arith}
use Rattle.desk.specs.Desks.{passes_of}
use Rattle.desk.proofs.Keeping.{kept_of, inside, good_of, accepted, is_accepted, kept_removed}
use Rattle.desk.proofs.desk.Desk.release_at.Goals as goal

pub invariant_of-self : goal.invariant_of-self
invariant_of-self g c =
    let d = c.args.self.now in
    let q = good_of d c.args.place c.remove.result c.requires c.remove.ensures.value in
    let a = accepted d.book c.remove.result.ticket c.release.new.self c.release.result q.mark q.stands_there c.release.ensures in
    let h = kept_removed d.book c.release.new.self c.remove.result.ticket (passes_of d) (vec_items c.remove.new.self) c.args.place
    (kept_of d) (inside d c.args.place c.requires) q a.1 c.remove.ensures.items in
    record { room = omega (arith, d.room, c.remove.ensures.capacity); marked = h.marked; standing = h.standing; apart = h.apart }

pub unwrap-requires : goal.unwrap-requires
unwrap-requires g c =
    let d = c.args.self.now in
    let q = good_of d c.args.place c.remove.result c.requires c.remove.ensures.value in
    is_accepted d.book c.remove.result.ticket c.release.new.self c.release.result q.mark q.stands_there c.release.ensures
