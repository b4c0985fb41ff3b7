-- Searches over positions.
use Rattle.std.specs.Prelude.{ℕ, zero, suc, ◌-◌, Bool, cond, ◌&&◌, List, length, Some, None, Option, ◌==◌, nat_le, nat_lt, slice_index}

-- the first of two that is there
abbrev pub or_else : {X : Type 0} → Option X → Option X → Option X
or_else (Some x) o = Some x
or_else None o = o

-- the lowest position below n at which the test holds
unfoldable pub lowest_where : (ℕ → Bool) → ℕ → Option ℕ
lowest_where P zero = None
lowest_where P (suc n) = or_else (lowest_where P n) (cond (P n) (Some n) None)

-- the number stands at the position
abbrev pub stands_at : List ℕ → ℕ → ℕ → Bool
stands_at ns n i = slice_index ns i == n

-- the first position at which the number stands
abbrev pub position_of : List ℕ → ℕ → Option ℕ
position_of ns n = lowest_where (stands_at ns n) (length ns)

-- the number at a position is not above the one before it
abbrev pub falls_at : List ℕ → ℕ → Bool
falls_at ns i = nat_lt 0 i && nat_le (slice_index ns i) (slice_index ns (i - 1))

-- the first such position
abbrev pub first_fall : List ℕ → Option ℕ
first_fall ns = lowest_where (falls_at ns) (length ns)
