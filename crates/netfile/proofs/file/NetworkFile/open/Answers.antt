use Rattle.std.proofs.Common.{◌≡◌, None, Option, rules}
use Rattle.netfile.specs.declared.faults.NetworkFault.{NetworkFault}
use Rattle.netfile.specs.Meaning.{fault_in, first_fault}
use Rattle.netfile.proofs.Networks.{judged}
use Rattle.netfile.proofs.file.NetworkFile.open.Goals as goal

pub returns-in_err-sites-clause-judged : goal.returns-in_err-sites-clause-judged
returns-in_err-sites-clause-judged c =
    let found : fault_in c.from_residual.result ≡ first_fault c.args.bytes.now = search rules in
    judged c.args.bytes.now _ found

pub returns-clause-judged : goal.returns-clause-judged
returns-clause-judged c =
    let found : ◌≡◌ {A = Option NetworkFault} None (first_fault c.args.bytes.now) = search rules in
    judged c.args.bytes.now None found
