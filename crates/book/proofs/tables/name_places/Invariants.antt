use Rattle.std.proofs.Common.{◌≡◌, ℕ, ◌<◌, ◌≤◌, get_or}
use Rattle.book.specs.Calls.{site_number}
use Rattle.book.proofs.tables.name_places.Given as goal

abbrev pub invariant-name : goal.invariant-name
invariant-name l =
    ((p : ℕ) → p < l.entry-index → get_or l.front p 0 ≡ site_number l.sites (get_or l.initial.front p 0))
    × ((p : ℕ) → l.entry-index ≤ p → get_or l.front p 0 ≡ get_or l.initial.front p 0)
