-- The parts of a fit call, as they are checked one after the other.
use Rattle.std.specs.Prelude.{◌≡◌, ℕ, ◌+◌, ◌≤◌, cond, List, length, ◌==◌, nat_eq}
use Rattle.network.specs.declared.line.Line.{Line}
use Rattle.network.specs.declared.pair.Pair.{Pair}
use Rattle.network.specs.Flow.{outs, ins}
use Rattle.network.specs.Answers.{Carries}
use Rattle.routes.specs.declared.marking.Marking.{Marking}

-- the pair of places that a marking is about
pub record PairOf (m : Marking) (q : Pair) : Type 0 where
  pub sites : q.net.sites ≡ m.sites
  pub lines : q.net.lines.now ≡ m.lines.now
  pub first : q.a ≡ m.a
  pub second : q.b ≡ m.b

-- marks that carry v between the places of a pair, and no more than v routes are wanted
pub record Ready (q : Pair) (ms : List ℕ) (v k : ℕ) : Type 0 where
  pub marks_room : length q.net.lines.now ≤ length ms
  pub carried : Carries q.net.lines.now ms q.a q.b v
  pub enough : k ≤ v

-- what of it needs no look at the marks; none carry more than there are lines
pub record Sized (ls : List Line) (ms : List ℕ) (v k : ℕ) : Type 0 where
  pub marks_room : length ls ≤ length ms
  pub enough : k ≤ v
  pub small : v ≤ length ls

-- what the balance of v units from a to b says of one place
abbrev pub BalancedAt : List Line → List ℕ → ℕ → ℕ → ℕ → ℕ → Type 0
BalancedAt ls ms a b v p = outs (nat_eq p) ls ms + cond (p == b) v 0 ≡ ins (nat_eq p) ls ms + cond (p == a) v 0
