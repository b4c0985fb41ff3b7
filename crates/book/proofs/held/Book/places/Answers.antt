use Rattle.std.proofs.Common.{sym, ◌∙◌, arith}
use Rattle.book.proofs.Places.{two_of}
use Rattle.book.proofs.held.Book.places.Goals as goal

pub invariant_of-result : goal.invariant_of-result
invariant_of-result g c =
    let t = two_of c.args.self.now c.args.first c.args.second c.in_ok-a.a c.in_ok-b.b (sym c.find.ensures ∙ c.in_ok-a.ensures.ok_part) (sym c.find-2.ensures ∙ c.in_ok-b.ensures.ok_part)
    c.if-first-second.false in
    record { apart = t.two; a_within = omega (arith, t.first_within, c.len.ensures); b_within = omega (arith, t.second_within, c.len.ensures) }
