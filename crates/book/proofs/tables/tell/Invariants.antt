use Rattle.std.proofs.Common.{◌≡◌, ◌+◌, vec_items, vec_len, vec_capacity}
use Rattle.book.proofs.Listings.{Telling}
use Rattle.book.proofs.tables.tell.Given as goal

abbrev pub invariant-write : goal.invariant-write
invariant-write l =
    (vec_len l.shown ≡ vec_len l.initial.shown + l.x-index) × (vec_capacity l.shown ≡ vec_capacity l.initial.shown)
    × Telling l.lines l.listed (vec_items l.initial.shown) l.reading.left l.x-index (vec_items l.shown)
