use Rattle.std.proofs.Common.{ℕ, None, vec_items, vec_len, sym, ap, ◌∙◌, arith}
use mathlib.Core.Logic.{∥∥₁_elim}
use native.Mathlib.Nat.{ℕ_set}
use Rattle.network.specs.Cuts.{level_of}
use Rattle.book.proofs.Places.{level_from}
use Rattle.book.proofs.Preparing.{sites_pass, level_there}
use Rattle.book.proofs.held.Book.level.Goals as goal

pub returns : goal.returns
returns g c =
    let b = c.args.self.now in let x = c.args.first in let y = c.args.second in let p = c.in_ok-pair.pair in let t = c.in_ok-pair.ensures.0 in
    let n = vec_len b.sites in let ls = vec_items b.lines in (
      sites_pass b x y p.a p.b t None,
      ∥∥₁_elim (b.tells (omega (arith, t.first_within))) (ℕ_set _ _)
          (λ tree. level_from n ls p.a p.b c.unwrap.result t.first_within t.second_within t.two (sym c.unwrap.ensures ∙ c.level.ensures.network n ls tree)
          ∙ ap (λ (m : ℕ). level_of m ls p.a p.b) b.sites.ok.0 ∙ sym (level_there b x y p.a p.b t)),
    )
