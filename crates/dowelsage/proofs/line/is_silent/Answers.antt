use Rattle.std.proofs.Common.{◌≡◌, ℕ, ◌<◌, true, eqb, List, length, get_or, drop, subst}
use Rattle.std.specs.Char.{is_not_whitespace}
use Rattle.std.specs.Str.{EmptyOrStartsWithPassing}
use Rattle.dowelsage.proofs.line.is_silent.Goals as goal

pub returns : goal.returns
returns c =
    let v = c.trim_start.ensures.value in
    let e : c.as_bytes.result.now ≡ drop v.0 c.args.line.now = cc in
    let r = c.is_remark.result in
    record {
      start = v.0;
      rest = v.3.0;
      white = v.2;
      opens = subst (λ (x : List ℕ). EmptyOrStartsWithPassing is_not_whitespace x v.3.0) v.1 v.3.1;
      alone = subst (λ (x : List ℕ). length x ≡ 0 → r ≡ true) e c.is_remark.ensures.alone;
      first = subst (λ (x : List ℕ). 0 < length x → r ≡ eqb (get_or x 0 0) 35) e c.is_remark.ensures.first;
    }
