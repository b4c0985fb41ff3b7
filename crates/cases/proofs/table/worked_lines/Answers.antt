use Rattle.cases.proofs.Worked.{worked_cases}
use Rattle.cases.proofs.table.worked_lines.Goals as goal

pub returns-clause-cases : goal.returns-clause-cases
returns-clause-cases c = worked_cases
