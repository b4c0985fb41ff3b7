-- How the places hang in a tree, and the lightest edge on the way between two of them.
use Rattle.std.specs.Prelude.{ℕ, zero, suc, ◌+◌, min, Bool, true, false, cond, List, ◌==◌, nat_lt, slice_index_or}
use Rattle.cuttree.specs.declared.tree.Node.{Node}

-- what stands past the last place of a tree
abbrev pub no_node : Node
no_node = record { parent = 0; weight = 0; order = 0 }

abbrev pub node_at : List Node → ℕ → Node
node_at ns x = slice_index_or ns x no_node

-- the place that x was joined to, the weight of that edge, and when x was joined
abbrev pub parent_of : List Node → ℕ → ℕ
parent_of ns x = (node_at ns x).parent

abbrev pub weight_of : List Node → ℕ → ℕ
weight_of ns x = (node_at ns x).weight

abbrev pub order_of : List Node → ℕ → ℕ
order_of ns x = (node_at ns x).order

-- of two different places the one that was joined later, and the other
abbrev pub later : List Node → ℕ → ℕ → ℕ
later ns x y = cond (nat_lt (order_of ns y) (order_of ns x)) x y

abbrev pub earlier : List Node → ℕ → ℕ → ℕ
earlier ns x y = cond (nat_lt (order_of ns y) (order_of ns x)) y x

-- the lightest of an edge of weight w and of the way on from its end, unless the way ends there
abbrev pub onward : ℕ → Bool → ℕ → ℕ
onward w true far = w
onward w false far = min w far

-- from the place x over the edge to its parent, and on to y; far tells the lightest edge from there
abbrev pub climb : (ℕ → ℕ → ℕ) → List Node → ℕ → ℕ → ℕ
climb far ns x y = onward (weight_of ns x) (parent_of ns x == y) (far (parent_of ns x) y)

-- the lightest edge on a way of at most m edges between two different places: the one that was joined later climbs
unfoldable pub lightest_in : ℕ → List Node → ℕ → ℕ → ℕ
lightest_in zero ns x y = 0
lightest_in (suc m) ns x y = climb (lightest_in m ns) ns (later ns x y) (earlier ns x y)

-- each edge on the way was joined at another time, so that there are no more than the two orders say
abbrev pub lightest_of : List Node → ℕ → ℕ → ℕ
lightest_of ns x y = lightest_in (order_of ns x + order_of ns y) ns x y
