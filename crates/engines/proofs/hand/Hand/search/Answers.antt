use Rattle.std.proofs.Common.{refl, sym}
use Rattle.engines.proofs.hand.Hand.search.Goals as goal

pub rounds-init : goal.rounds-init
rounds-init c =
    let h = c.args.self.now in
    let new = c.start_search.ensures in
    (record { pair = refl; marks = refl; work = refl }, refl, new.begun h.pair.net.lines.now h.marks.now, new.others h.pair.b (λ e. h.pair.apart (sym e)))
