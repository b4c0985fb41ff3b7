-- What the ledgers of the worked network say: which lines are free, which sites share a group, where few lines cross.
use Rattle.std.proofs.Common.{◌≡◌, ℕ, ◌<◌, ◌≤◌, ◌≢◌, ◌↔◌, List, sym, refl, ap, ◌∙◌, subst, inl, inr, arith}
use Rattle.network.specs.declared.line.LineState.{LineState}
use Rattle.network.specs.declared.line.LineState.TheVariants.{Free}
use Rattle.network.specs.declared.site.Site.{Site}
use Rattle.network.specs.Lines.{Joins, AllJoin, line_at}
use Rattle.network.specs.Cuts.{level_of, crossing_by}
use Rattle.network.specs.Groups.{Share}
use Rattle.network.proofs.Groups.{shared}
use Rattle.netfile.specs.Search.{lowest_where}
use Rattle.netfile.specs.Layout.{numbers_from}
use Rattle.netfile.specs.Meaning.{sites_in, lines_in}
use Rattle.book.specs.Ledger.{Ledger, holders, ended}
use Rattle.book.specs.Calls.{place_in}
use Rattle.book.specs.Runs.{Asked, Sharing, SmallCut}
use Rattle.cases.specs.Table.{worked}
use Rattle.cases.specs.File.{worked_file}
use Rattle.cases.specs.Ledgers.{at_first, given_back}
use Rattle.cases.proofs.Worked.{OneOf, one_of, worked_cases}
use Rattle.cases.proofs.Meant.{At, places}

-- what holds of each of the five lines
pub each_line : (P : ℕ → Type 0) → P 0 → P 1 → P 2 → P 3 → P 4 → (p : ℕ) → p < 5 → P p
each_line P h0 h1 h2 h3 h4 p h = go p (one_of p h)
  where
    go : (p : ℕ) → OneOf p → P p
    go p (inl e) = subst P (sym e) h0
    go p (inr (inl e)) = subst P (sym e) h1
    go p (inr (inr (inl e))) = subst P (sym e) h2
    go p (inr (inr (inr (inl e)))) = subst P (sym e) h3
    go p (inr (inr (inr (inr e)))) = subst P (sym e) h4

-- each joins two of the four places
joins : (s : LineState) → AllJoin 4 (worked s)
joins s =
    each_line (λ q. Joins 4 (line_at (worked s) q)) (omega arith, omega arith, λ e. omega arith) (omega arith, omega arith, λ e. omega arith)
    (omega arith, omega arith, λ e. omega arith) (omega arith, omega arith, λ e. omega arith) (omega arith, omega arith, λ e. omega arith)

pub share_level : (s : LineState) (k x y : ℕ) → x < 4 → y < 4 → x ≢ y → Share 4 (worked s) k x y ↔ (k ≤ level_of 4 (worked s) x y)
share_level s k x y = shared 4 (worked s) k x y (joins s)

-- two sites of the file can be asked for while numbers are left
pub asked : (l : Ledger) (x y px py k : ℕ) → l.sites ≡ sites_in worked_file → l.count ≤ 1 → At x px → At y py → x ≢ y → 1 ≤ k → k ≤ 512
    → Asked l x y px py k
asked l x y px py k e few hx hy ne low high =
    record {
      first = ap (λ (ss : List Site). place_in ss x) e ∙ hx;
      second = ap (λ (ss : List Site). place_in ss y) e ∙ hy;
      apart = ne;
      low = low;
      high = high;
      numbers_left = omega arith;
    }

pub asked_10_20 : (l : Ledger) (k : ℕ) → l.sites ≡ sites_in worked_file → l.count ≤ 1 → 1 ≤ k → k ≤ 512 → Asked l 10 20 0 1 k
asked_10_20 l k e few low high = asked l 10 20 0 1 k e few places.0 places.1 (λ f. omega arith) low high

-- 10 and 20 share a group at level 3
pub share_first : Sharing at_first 0 1 3
unfolding worked_file sites_in lines_in lowest_where numbers_from holders
share_first = (share_level Free 3 0 1 (omega arith) (omega arith) (λ e. omega arith)).1 (omega (arith, worked_cases.level_10_20))

-- three lines cross the side of 10 alone
pub cut_back : (ns : List ℕ) → SmallCut (given_back ns) 0 1 4
unfolding worked_file sites_in lines_in lowest_where numbers_from holders ended crossing_by
cut_back ns = (1, omega arith, refl, omega arith)
