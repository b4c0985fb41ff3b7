use Rattle.std.proofs.Common.{List, ℕ, Ok, Err, refl, subst}
use Rattle.book.specs.Ledger.{started}
use Rattle.book.specs.Calls.{opening_check, Opened}
use Rattle.book.specs.Runs.{Lawful}
use Rattle.cases.specs.File.{worked_file}
use Rattle.cases.proofs.Following.{never, opening_passes, opened}
use Rattle.cases.proofs.calls.worked_calls.Goals as goal

pub once_open-requires : goal.once_open-requires
once_open-requires g c =
    let b = c.in_ok-book.book in
    let first = c.open.new.self in
    opened b first
    (subst (λ (bs : List ℕ). Opened b bs 7 first (Ok tt)) c.worked_bytes.ensures c.in_ok-open.ensures.opened)
    (subst (λ (bs : List ℕ). Lawful first (started bs 7)) c.worked_bytes.ensures (c.in_ok-open.ensures.lawful refl))

pub returns-in_err-open-clause-none_denied : goal.returns-in_err-open-clause-none_denied
returns-in_err-open-clause-none_denied g c =
    let b = c.in_ok-book.book in
    absurd
    (never (opening_check b worked_file) (opening_passes b c.in_ok-book.ensures.0)
    (subst (λ (bs : List ℕ). Opened b bs 7 c.open.new.self (Err c.in_err-open.field-0.0)) c.worked_bytes.ensures c.in_err-open.ensures.opened).0)
