-- Why a call is refused, and the number that a program in C is told.
use Rattle.std.specs.Prelude.{◌≡◌, ℕ, Ok, Err, Result}
use Rattle.book.specs.Grounds.{fault_number}
use Rattle.capi.specs.declared.refusal.Refusal.{Refusal}
use Rattle.capi.specs.declared.refusal.Refusal.TheVariants.{Book, NoEngine, NoMemory}

-- the numbers of the line book's checks go to 16
abbrev pub refusal_number : Refusal → ℕ
refusal_number (Book f) = fault_number f
refusal_number NoEngine = 254
refusal_number NoMemory = 255

-- 0 where the call is done
abbrev pub number_told : {A : Type 0} → Result A Refusal → ℕ
number_told (Ok a) = 0
number_told (Err e) = refusal_number e

-- done where no check applies, so that their number is 0; else refused by that number, and the list is kept
abbrev pub Answered : {A : Type 0} → ℕ → (A → Type 0) → Type 0 → Result A Refusal → Type 0
Answered check Done Kept (Ok a) = (check ≡ 0) × Done a
Answered check Done Kept (Err e) = (refusal_number e ≡ check) × Kept
