-- The checks of questions and bookings, from the places of two sites on, and the room that is left for a booking.
use Rattle.std.proofs.Common.{◌≡◌, ℕ, ◌+◌, ◌*◌, ◌<◌, ◌≤◌, vec_len, vec_capacity, Option, refl, arith}
use Rattle.std.proofs.lemmas.Bool.{ne_eqb}
use Rattle.network.specs.Cuts.{level_of}
use Rattle.book.specs.declared.held.Book.{Book}
use Rattle.book.specs.Grounds.{Ground}
use Rattle.book.specs.Calls.{sites_of, lines_of, rows_of, size_of, sites_check, book_level}
use Rattle.book.specs.Plans.{TwoPlaces}
use Rattle.book.specs.Tables.{free_count}
use Rattle.book.proofs.Places.{place_is}
use Rattle.book.proofs.Rows.{sound_length, sound_shown}

module _ {E : Type 0} (b : Book E) (x y p q : ℕ) (t : TwoPlaces b x y p q) where
  -- none of the checks of sites applies
  pub sites_pass : (rest : Option Ground) → sites_check b x y rest ≡ rest
  sites_pass rest = rw (t.first, t.second, ne_eqb x y t.apart) refl

  -- the level is that of the two places
  pub level_there : book_level b x y ≡ level_of (size_of b) (lines_of b) p q
  level_there = rw (place_is (sites_of b) x p t.first, place_is (sites_of b) y q t.second) refl

-- where l lines are free, a booking of them has room for its row and for two numbers a line
pub room_left : {E : Type 0} (b : Book E) (f l : ℕ) → free_count (lines_of b) ≡ f + l → 1 ≤ l
    → (vec_len b.standing < vec_capacity b.standing) × (vec_len b.shown + 2 * l ≤ vec_capacity b.shown)
room_left b f l e some =
    let rows = sound_length (lines_of b) 0 b.count (rows_of b) b.rises in
    let shown = sound_shown (lines_of b) 0 b.count (rows_of b) b.rises in (
      omega (arith, rows, b.parted, e, b.few_lines, b.row_room, b.standing.ok.0),
      omega (arith, shown, b.parted, e, b.totals, b.few_lines, b.shown_room),
    )
