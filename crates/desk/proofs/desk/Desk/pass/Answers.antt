use Rattle.std.proofs.Common.{ℕ, List, Option, Some, None, MatchOption, Bor, ◌≡◌, false, eqb, find}
use Rattle.std.specs.Option.{option_copied}
use Rattle.network.specs.Lists.{among}
use Rattle.desk.specs.declared.pass.Pass.{Pass}
use Rattle.desk.specs.Desks.{passes_of}
use Rattle.desk.specs.Passes.{number_of, numbers_of, Held}
use Rattle.desk.proofs.Finding.{held, not_held}
use Rattle.desk.proofs.desk.Desk.pass.Goals as goal

lent : (ps : List Pass) (j : ℕ) (o : Option (Bor Pass)) → option_copied o ≡ find (λ p. eqb (number_of p) j) ps → MatchOption o (among (numbers_of ps) j ≡ false) (λ b. Held ps j b.now)
lent ps j None e = not_held ps j e
lent ps j (Some b) e = held ps j b.now e

pub returns : goal.returns
returns g c = lent (passes_of c.args.self.now) c.args.number c.pass_of.result (rw c.deref.ensures.value at c.pass_of.ensures)
