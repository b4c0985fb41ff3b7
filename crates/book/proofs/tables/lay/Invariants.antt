use Rattle.std.proofs.Common.{◌≡◌, ◌≤◌, List, length, take, vec_items, vec_len, vec_capacity}
use Rattle.book.specs.Listings.{Gives}
use Rattle.book.proofs.tables.lay.Given as goal

abbrev pub invariant-lay : goal.invariant-lay
invariant-lay g l =
    (vec_capacity l.list ≡ vec_capacity l.initial.list) × (vec_len l.list ≤ l.i)
    × ((xs : List _) → length xs ≡ l.count → Gives (goal.F-post g l.at) xs → vec_items l.list ≡ take l.i xs)
