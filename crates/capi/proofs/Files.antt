-- A file that a desk opened has no fault, and a network that has a tree.
use Rattle.std.proofs.Common.{◌≡◌, ℕ, Bool, true, false, List, length, Option, Some, None, refl, arith}
use Rattle.netfile.specs.declared.faults.NetworkFault.{NetworkFault}
use Rattle.netfile.specs.Meaning.{first_fault, sites_in, lines_in}
use Rattle.netfile.proofs.Networks.{holds}
use Rattle.book.specs.Calls.{opening_check}
use Rattle.book.specs.declared.held.Book.{Book}
use Rattle.book.specs.Grounds.{already_open, check, file_check}
use Rattle.cuttree.specs.Trees.{Lawful}

pub lawful_file : (bs : List ℕ) → first_fault bs ≡ None → Lawful (length (sites_in bs)) (lines_in bs)
lawful_file bs sound =
    let h = holds bs sound in
    record { some_site = h.some_site; fits = record { few_sites = h.few_sites; few_lines = h.few_lines; joined = h.joined } }

-- no check applies after one that does not
passed : (t : Bool) (f : Option NetworkFault) → check t already_open (file_check f) ≡ None → f ≡ None
passed true f h = absurd (let z : ◌≡◌ {A = ℕ} 0 1 = cc in let w : ⊥ = omega (arith, z) in w)
passed false None h = refl
passed false (Some f) h = absurd (let z : ◌≡◌ {A = ℕ} 0 1 = cc in let w : ⊥ = omega (arith, z) in w)

pub opened_sound : {E : Type 0} (b : Book E) (bs : List ℕ) → opening_check b bs ≡ None → first_fault bs ≡ None
opened_sound b bs h = passed _ (first_fault bs) h
