use Rattle.std.proofs.Common.{sym, ◌∙◌, arith}
use Rattle.std.proofs.lemmas.Bool.{le-ltb}
use Rattle.network.proofs.Members.{member_past}
use Rattle.network.proofs.side.contains.Goals as goal

pub returns-else-place-lt64 : goal.returns-else-place-lt64
returns-else-place-lt64 c =
    le-ltb c.args.place 64 (omega arith) ∙ sym (member_past c.args.side 64 c.args.place (omega arith) (omega arith))
