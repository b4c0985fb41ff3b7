-- What the absence of a fault says of the bytes.
use Rattle.std.proofs.Common.{◌≡◌, ℕ, ◌*◌, ◌%◌, ◌≤◌, Bool, true, false, List, length, Some, None, Option, refl, arith}
use Rattle.std.proofs.lemmas.Bool.{and_parts, leb-true, eqb-true}
use Rattle.netfile.specs.Search.{or_else}
use Rattle.netfile.specs.Layout.{site_offset, site_length, line_offset, line_length, site_end, line_end, site_count, line_count}
use Rattle.netfile.specs.Meaning.{unless, carried, size_fault, signature_fault, edition_fault, pair_count_fault, parts_fault, lengths_fault, file_fault, rising_fault, ends_fault, first_fault}

-- neither of two is there
pub neither : {X : Type 0} (a b : Option X) → or_else a b ≡ None → (a ≡ None) × (b ≡ None)
neither None b e = (refl, e)
neither (Some x) b e = let z : ◌≡◌ {A = ℕ} 0 1 = cc in absurd (omega arith)

pub not_carried : {D E : Type 0} (w : D → E) (o : Option D) → carried w o ≡ None → o ≡ None
not_carried w None e = refl
not_carried w (Some x) e = let z : ◌≡◌ {A = ℕ} 0 1 = cc in absurd (omega arith)

pub test_held : {E : Type 0} (t : Bool) (x : E) → unless t x ≡ None → t ≡ true
test_held true x e = refl
test_held false x e = let z : ◌≡◌ {A = ℕ} 0 1 = cc in absurd (omega arith)

-- no fault of the file layer
pub record FileSound (bs : List ℕ) : Type 0 where
  pub size : size_fault bs ≡ None
  pub parts : parts_fault bs ≡ None
  pub lengths : lengths_fault bs ≡ None

file_sound : (bs : List ℕ) → file_fault bs ≡ None → FileSound bs
unfolding file_fault
file_sound bs e =
    let f2 = neither (size_fault bs) _ e in
    let f3 = neither (signature_fault bs) _ f2.1 in
    let f4 = neither (edition_fault bs) _ f3.1 in
    let f5 = neither (pair_count_fault bs) _ f4.1 in
    let f6 = neither (parts_fault bs) _ f5.1 in
    record { size = f2.0; parts = f6.0; lengths = f6.1 }

-- what the header of such a file keeps to
pub record Bounded (bs : List ℕ) : Type 0 where
  pub header : 14 ≤ length bs
  pub sites_from : 14 ≤ site_offset bs
  pub sites_to : site_end bs ≤ length bs
  pub lines_from : site_end bs ≤ line_offset bs
  pub lines_to : line_end bs ≤ length bs
  pub some_site : 1 ≤ site_count bs
  pub few_sites : site_count bs ≤ 64
  pub few_lines : line_count bs ≤ 512
  pub whole_sites : 8 * site_count bs ≡ site_length bs
  pub whole_lines : 6 * line_count bs ≡ line_length bs

pub bounded : (bs : List ℕ) → file_fault bs ≡ None → Bounded bs
bounded bs none =
    let n = file_sound bs none in
    let s = and_parts _ _ (test_held _ _ n.size) in
    let p = neither _ _ n.parts in
    let p6 = and_parts _ _ (test_held _ _ p.0) in
    let p10 = and_parts _ _ (test_held _ _ p.1) in
    let l = neither _ _ n.lengths in
    let l8 = and_parts _ _ (test_held _ _ l.0) in
    let l8' = and_parts _ _ l8.1 in
    let l12 = and_parts _ _ (test_held _ _ l.1) in
    let l12' = and_parts _ _ l12.1 in
    let a : 14 ≤ length bs = leb-true _ _ s.0 in
    let d : site_length bs % 8 ≡ 0 = eqb-true _ _ l8'.1 in
    let f : line_length bs % 6 ≡ 0 = eqb-true _ _ l12'.1 in
    record {
      header = a;
      sites_from = leb-true _ _ p6.0;
      sites_to = leb-true _ _ p6.1;
      lines_from = leb-true _ _ p10.0;
      lines_to = leb-true _ _ p10.1;
      some_site = leb-true _ _ l8.0;
      few_sites = leb-true _ _ l8'.0;
      few_lines = leb-true _ _ l12'.0;
      whole_sites = omega arith;
      whole_lines = omega arith;
    }

-- an accepted file has no fault at any layer
pub record NoFault (bs : List ℕ) : Type 0 where
  pub file : file_fault bs ≡ None
  pub rising : rising_fault bs ≡ None
  pub ends : ends_fault bs ≡ None

pub no_fault : (bs : List ℕ) → first_fault bs ≡ None → NoFault bs
unfolding first_fault
no_fault bs e =
    let net = neither _ _ e in
    let rec = neither _ _ (not_carried _ _ net.0) in
    record { file = not_carried _ _ rec.0; rising = rec.1; ends = net.1 }

pub file_bounded : (bs : List ℕ) → first_fault bs ≡ None → Bounded bs
file_bounded bs e = bounded bs (no_fault bs e).file
