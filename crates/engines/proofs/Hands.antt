-- What an engine has in hand stays the same from call to call.
use Rattle.std.proofs.Common.{◌∙◌}
use Rattle.engines.specs.declared.hand.Hand.{Hand}
use Rattle.engines.specs.Hands.{SameHand}

pub same_then : (h₁ h₂ h₃ : Hand) → SameHand h₁ h₂ → SameHand h₂ h₃ → SameHand h₁ h₃
same_then h₁ h₂ h₃ s r = record { pair = r.pair ∙ s.pair; marks = r.marks ∙ s.marks; work = r.work ∙ s.work }
