-- The places of two sites, and what the tree tells of them.
use Rattle.std.proofs.Common.{◌≡◌, ℕ, ◌<◌, true, cond, not, ◌&&◌, eqb, ltb, ◌≢◌, List, map, length, get_or, Some, None, sym, refl, ap, ◌∙◌, subst₂, arith}
use Rattle.std.proofs.lemmas.List.{length-map}
use Rattle.std.proofs.lemmas.Bool.{and_from, lt-ltb, ne_eqb, not_from_false, eqb-true}
use Rattle.network.specs.declared.line.Line.{Line}
use Rattle.network.specs.declared.site.Site.{Site}
use Rattle.network.specs.Lines.{Fits}
use Rattle.network.specs.Cuts.{level_of}
use Rattle.netfile.specs.Search.{stands_at}
use Rattle.netfile.proofs.Lowest.{Lowest, lowest_is}
use Rattle.cuttree.specs.declared.tree.Tree.{Tree}
use Rattle.cuttree.specs.Trees.{two_places, TreeOf}
use Rattle.book.specs.declared.held.Book.{Book}
use Rattle.book.specs.Calls.{place_in, place, sites_of}
use Rattle.book.specs.Plans.{TwoPlaces}

abbrev numbers : List Site → List ℕ
numbers ss = map (λ s. s.number) ss

at_place : (ss : List Site) (x p : ℕ) → place_in ss x ≡ Some p → Lowest (stands_at (numbers ss) x) (length (numbers ss)) p
at_place ss x p e = lowest_is (stands_at (numbers ss) x) (length (numbers ss)) p e

pub place_within : (ss : List Site) (x p : ℕ) → place_in ss x ≡ Some p → p < length ss
place_within ss x p e = omega (arith, (at_place ss x p e).within, length-map ss (λ s. s.number))

-- sites of different numbers have different places
pub places_apart : (ss : List Site) (x y p q : ℕ) → place_in ss x ≡ Some p → place_in ss y ≡ Some q → x ≢ y → p ≢ q
places_apart ss x y p q e f ne same =
    ne (sym (eqb-true (get_or (numbers ss) p 0) x (at_place ss x p e).here) ∙ ap (λ (i : ℕ). get_or (numbers ss) i 0) same
    ∙ eqb-true (get_or (numbers ss) q 0) y (at_place ss y q f).here)

pub place_is : (ss : List Site) (x p : ℕ) → place_in ss x ≡ Some p → place ss x ≡ p
place_is ss x p e = rw e refl

pub two_there : (n x y : ℕ) → x < n → y < n → x ≢ y → two_places n x y ≡ true
two_there n x y l m ne =
    and_from (ltb x n) (ltb y n && not (eqb x y)) (lt-ltb x n l) (and_from (ltb y n) (not (eqb x y)) (lt-ltb y n m) (not_from_false (eqb x y) (ne_eqb x y ne)))

pub level_from : (n : ℕ) (ls : List Line) (x y v : ℕ) → x < n → y < n → x ≢ y → Some v ≡ cond (two_places n x y) (Some (level_of n ls x y)) None → v ≡ level_of n ls x y
level_from n ls x y v l m ne e = let f = rw (two_there n x y l m ne) at e in cc

-- a tree of so many sites and of these lines, under other names for both
pub tells_moved : (n n' : ℕ) (ls ls' : List Line) (t : Tree) → n ≡ n' → ls ≡ ls' → (0 < n → ∥ TreeOf n ls t ∥₁) → 0 < n' → ∥ TreeOf n' ls' t ∥₁
tells_moved n n' ls ls' t = subst₂ (λ (m : ℕ) (l : List Line). 0 < m → ∥ TreeOf m l t ∥₁)

pub fits_moved : (n n' : ℕ) (ls ls' : List Line) → n ≡ n' → ls ≡ ls' → Fits n ls → Fits n' ls'
fits_moved n n' ls ls' = subst₂ Fits

-- the places of two sites that the book has
pub two_of : {E : Type 0} (b : Book E) (x y p q : ℕ) → place_in (sites_of b) x ≡ Some p → place_in (sites_of b) y ≡ Some q → x ≢ y → TwoPlaces b x y p q
two_of b x y p q e f ne = record {
  first = e;
  second = f;
  apart = ne;
  first_within = omega (arith, place_within (sites_of b) x p e, b.sites.ok.0);
  second_within = omega (arith, place_within (sites_of b) y q f, b.sites.ok.0);
  two = places_apart (sites_of b) x y p q e f ne;
}
