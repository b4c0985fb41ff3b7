use Rattle.std.proofs.Common.{arith}
use Rattle.desk.specs.Desks.{passes_of}
use Rattle.desk.proofs.Keeping.{kept_of, room_left, kept_push}
use Rattle.desk.proofs.desk.Desk.book_routes.Goals as goal

pub keep-requires : goal.keep-requires
keep-requires g c =
    let d = c.args.self.now in
    let n = c.in_ok-ticket.ensures.booked.1 in
    omega (arith, room_left d.book _ _ _ _ _ (passes_of d) (kept_of d) n, d.room, d.passes.ok.0)

pub invariant_of-self-2 : goal.invariant_of-self-2
invariant_of-self-2 g c =
    let d = c.args.self.now in
    let n = c.in_ok-ticket.ensures.booked.1 in
    let h = kept_push d.book _ _ _ _ _ (passes_of d) _ (kept_of d) n c.keep.ensures.items in
    record { room = omega (arith, d.room, c.keep.ensures.capacity); marked = h.marked; standing = h.standing; apart = h.apart }
