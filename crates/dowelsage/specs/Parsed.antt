-- The number that `parse` gives is the one that the word writes.
use Rattle.std.proofs.Common.{ℕ, List, Result, Ok, Err, sym, arith}
use Rattle.std.specs.Result.{result_ok}
use Rattle.std.specs.Str.Parse.{ParsesUnsigned}
use Rattle.dowelsage.specs.Words.{Reads}

pub parsed_reads : {E : Type 0} (bits : ℕ) (word : List ℕ) (r : Result ℕ E) → ParsesUnsigned bits 10 word r → Reads bits word (result_ok r)
parsed_reads bits word (Ok n) p = (p.0.0, sym p.1, omega (arith, p.0.1, p.1))
parsed_reads bits word (Err e) p = λ n w. p (w.0, omega (arith, w.1, w.2))
