use Rattle.std.proofs.Common.{◌≡◌, vec_items, vec_len, vec_capacity}
use Rattle.book.proofs.Listings.{Giving}
use Rattle.book.proofs.tables.hold.Given as goal

abbrev pub invariant-give : goal.invariant-give
invariant-give l = (vec_len l.lines ≡ vec_len l.initial.lines) × (vec_capacity l.lines ≡ vec_capacity l.initial.lines) × Giving l.number (vec_len l.initial.lines) l.listed (vec_items l.initial.lines) l.reading.left l.x-index (vec_items l.lines)
