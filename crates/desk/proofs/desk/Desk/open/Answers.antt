use Rattle.desk.proofs.Keeping.{kept_opened}
use Rattle.desk.proofs.desk.Desk.open.Goals as goal

pub invariant_of-self : goal.invariant_of-self
invariant_of-self g c =
    let d = c.args.self.now in
    let h = kept_opened d _ _ _ _ c.«open».ensures.opened in
    record { room = d.room; marked = h.marked; standing = h.standing; apart = h.apart }
