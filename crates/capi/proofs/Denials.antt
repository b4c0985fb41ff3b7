-- The number of the check that denies a booking.
use Rattle.std.proofs.Common.{◌≡◌, ℕ, ◌<◌, Bool, true, false, cond, leb, Option, Some, None, Ok, Err, Result, IsErrAnd, sym, refl, ap, ◌∙◌, arith}
use Rattle.std.proofs.lemmas.Bool.{both_ways}
use Rattle.netfile.specs.Faults.{number_of}
use Rattle.book.specs.declared.held.Book.{Book}
use Rattle.book.specs.declared.fault.Fault.{Fault}
use Rattle.book.specs.declared.fault.Fault.TheVariants.{AlreadyOpen, Network, NoSuchSite, SameSite, LevelOutOfRange, NumbersSpent, TooFewRoutes, NoSuchBooking, ShortList}
use Rattle.book.specs.Grounds.{Ground, already_open, file_fault, no_site, same_site, level_out, numbers_spent, too_few, no_booking, list_short, ground_of, check, fault_number}
use Rattle.book.specs.Calls.{sites_of, lines_of, booking_check}
use Rattle.capi.specs.declared.refusal.Refusal.{Refusal}
use Rattle.capi.specs.declared.refusal.Refusal.TheVariants.{Book as OfBook}
use Rattle.capi.specs.Refusals.{refusal_number, number_told}
use Rattle.capi.specs.Calls.{booking_number}

-- the number that a program in C is told of a fault
pub by_fault : {A : Type 0} (r : Result A Refusal) (f : Fault) → IsErrAnd r (λ e. e ≡ OfBook f) → number_told r ≡ fault_number f
by_fault (Ok a) f h = absurd h
by_fault (Err e) f h = ap refusal_number h

-- the number of a ground is that of each fault that has it
ground_number : Ground → ℕ
ground_number already_open = 1
ground_number (file_fault f) = number_of f
ground_number (no_site j) = 10
ground_number same_site = 11
ground_number level_out = 12
ground_number numbers_spent = 13
ground_number too_few = 14
ground_number no_booking = 15
ground_number list_short = 16

by_ground : (f : Fault) → fault_number f ≡ ground_number (ground_of f)
unfolding ground_number
by_ground AlreadyOpen = refl
by_ground (Network f) = refl
by_ground (NoSuchSite j) = refl
by_ground SameSite = refl
by_ground LevelOutOfRange = refl
by_ground NumbersSpent = refl
by_ground (TooFewRoutes f) = refl
by_ground NoSuchBooking = refl
by_ground ShortList = refl

number_or_0 : Option Ground → ℕ
number_or_0 None = 0
number_or_0 (Some g) = ground_number g

-- the checks of a booking, where numbers are left
by_checks : (x y : ℕ) (a b c d s e : Bool) → s ≡ false →
    number_or_0 (check a (no_site x) (check b (no_site y) (check c same_site (check d level_out (check s numbers_spent (check e too_few None))))))
    ≡ cond a 10 (cond b 10 (cond c 11 (cond d 12 (cond e 14 0))))
unfolding ground_number number_or_0
by_checks x y true b c d s e h = refl
by_checks x y false true c d s e h = refl
by_checks x y false false true d s e h = refl
by_checks x y false false false true s e h = refl
by_checks x y false false false false true e h = absurd (both_ways true h refl)
by_checks x y false false false false false true h = refl
by_checks x y false false false false false false h = refl

pub denied : {E : Type 0} (b : Book E) (x y k : ℕ) (f : Fault) → b.count < 65535 → booking_check b x y k ≡ Some (ground_of f) →
    fault_number f ≡ booking_number (sites_of b) (lines_of b) x y k
unfolding number_or_0
denied b x y k f l h =
    let left : leb 65535 b.count ≡ false = grind (arith, l) in
    by_ground f ∙ sym (ap number_or_0 h) ∙ by_checks x y _ _ _ _ _ _ left
