-- The laws of trees over any submodular count.
use Rattle.std.proofs.Common.{ℕ, ◌+◌, ◌<◌, Bool, List, [], ◌∷◌, arith}
use Rattle.network.proofs.Ties.{Tied, SubmodularCount, step_across, step_inside, step_outside}
use Rattle.cuttree.specs.Nodes.{order_of}
use Rattle.cuttree.specs.Splits.{Part, Join}
use Rattle.cuttree.specs.Laws.{Step, GrownBy, all_places, lone_source, least_side, LightestIsLeast}
use Rattle.cuttree.proofs.Growing.{Growing, growing_start, growing_done, growing_split}
use Rattle.cuttree.proofs.Hanging.{finished, lightest_tied}
use Rattle.cuttree.proofs.Rooting.{two_parts}

pub step : Step
unfolding Tied
step c sub X k u v s t xu xv xs xt least h =
    (step_inside c sub X k u v s t xu xv xs xt least h, step_across c sub X k u v s t xu xv xs xt least h, step_outside c sub X k u v s t xu xv xs xt least h)

growing_by : (n : ℕ) (c : (ℕ → Bool) → ℕ) (js : List Join) (ps : List Part) → SubmodularCount c → 0 < n → GrownBy n c js ps → Growing n c js ps
unfolding Tied
growing_by n c _ _ sub some all_places = growing_start n c some
growing_by n c js ps sub some (lone_source _ p _ alone h) = growing_done n c js p ps alone (growing_by n c js (p ∷ ps) sub some h)
growing_by n c _ _ sub some (least_side js p ps t side near far waits xs xt least parts h) =
    growing_split n c sub js p ps t side near far waits xs xt least parts (growing_by n c js (p ∷ ps) sub some h)

pub lightest_is_least : LightestIsLeast
unfolding Tied
lightest_is_least n c js ns sub some grown held k x y h =
    let two = two_parts n x y h in
    lightest_tied n c ns (finished n c ns js some (growing_by n c js [] sub some grown) held) (order_of ns x + order_of ns y) k x y (omega arith) two.0 two.1 two.2
