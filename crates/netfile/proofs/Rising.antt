-- Numbers that do not rise.
use Rattle.std.proofs.Common.{◌≡◌, ℕ, ◌-◌, ◌<◌, ◌≤◌, true, List, get_or}
use Rattle.std.proofs.lemmas.Bool.{lt-ltb, le-leb, and_from}
use Rattle.netfile.specs.Search.{falls_at}

pub falls_here : (ns : List ℕ) (i : ℕ) → 0 < i → get_or ns i 0 ≤ get_or ns (i - 1) 0 → falls_at ns i ≡ true
falls_here ns i p h = and_from _ _ (lt-ltb 0 i p) (le-leb _ _ h)
