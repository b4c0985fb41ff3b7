use Rattle.std.proofs.Common.{ℕ, sym, refl, ◌∙◌, subst}
use Rattle.desk.specs.Desks.{passes_of, EndedAt}
use Rattle.desk.proofs.Finding.{placed, not_placed}
use Rattle.desk.proofs.desk.Desk.release.Goals as goal

pub returns-in_default : goal.returns-in_default
returns-in_default g c = (not_placed (passes_of c.args.self.now) c.args.number (rw c.deref.ensures.value at c.in_default.ensures), refl)

pub returns : goal.returns
returns g c =
    let d = c.args.self.now in
    let at = placed (passes_of d) c.args.number c.in-Some.place (rw c.deref.ensures.value at c.in-Some.ensures) in
    (c.in-Some.place, subst (λ (n : ℕ). EndedAt d c.in-Some.place c.release_at.new.self n) (sym c.release_at.ensures.here ∙ at.1) c.release_at.ensures)
