-- What an engine has in hand while it works.
use Rattle.std.specs.Prelude.{◌≡◌}
use Rattle.engines.specs.declared.hand.Hand.{Hand}

-- the same pair, and marks and table behind the same references; what they hold may differ
pub record SameHand (h h' : Hand) : Type 0 where
  pub pair : h'.pair ≡ h.pair
  pub marks : h'.marks.ghost_name ≡ h.marks.ghost_name
  pub work : h'.work.ghost_name ≡ h.work.ghost_name
