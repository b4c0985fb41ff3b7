-- When each check applies to a list of bytes, and at which byte, said of the bytes alone; and what the first fault is
-- in these terms.
use Rattle.std.specs.Prelude.{◌≡◌, ℕ, ◌+◌, ◌%◌, ◌<◌, ◌≤◌, cond, ◌⊎◌, ◌↔◌, List, length, Some, None, ◌==◌, ◌≢◌, nat_le, slice_index}
use Rattle.netfile.specs.declared.faults.Layer.{Layer}
use Rattle.netfile.specs.declared.faults.Layer.TheVariants.{File, Record, Network}
use Rattle.netfile.specs.declared.faults.NetworkFault.{NetworkFault}
use Rattle.netfile.specs.Faults.{number_of, layer_of, place_of}
use Rattle.netfile.specs.Layout.{site_offset, site_length, line_offset, line_length, site_end, line_end, site_count, line_count, site_start, line_start, site_number, line_number, named_first, named_second}
use Rattle.netfile.specs.Meaning.{first_fault}

-- 2: fewer than 14 or more than 8,192 bytes
abbrev pub WrongSize : List ℕ → Type 0
WrongSize bs = (length bs < 14) ⊎ (8192 < length bs)

-- 3: the first four bytes are not 4C 4E 45 54
abbrev pub WrongSignature : List ℕ → Type 0
WrongSignature bs = (slice_index bs 0 ≡ 76) × (slice_index bs 1 ≡ 78) × (slice_index bs 2 ≡ 69) × (slice_index bs 3 ≡ 84) → ⊥

-- 4: the edition is not 1
abbrev pub WrongEdition : List ℕ → Type 0
WrongEdition bs = slice_index bs 4 ≡ 1 → ⊥

-- 5: the number of pairs is not 2
abbrev pub WrongPairCount : List ℕ → Type 0
WrongPairCount bs = slice_index bs 5 ≡ 2 → ⊥

-- 6: a part starts before byte 14 or before the end of the part before it, or ends past the file
abbrev pub SitesMisplaced : List ℕ → Type 0
SitesMisplaced bs = (site_offset bs < 14) ⊎ (length bs < site_end bs)

abbrev pub LinesMisplaced : List ℕ → Type 0
LinesMisplaced bs = (line_offset bs < 14) ⊎ ((line_offset bs < site_end bs) ⊎ (length bs < line_end bs))

-- 7: a part's length is not that of 1 to 64 site records, or of at most 512 line records
abbrev pub WrongSiteLength : List ℕ → Type 0
WrongSiteLength bs = (site_length bs ≡ 0) ⊎ ((512 < site_length bs) ⊎ (site_length bs % 8 ≢ 0))

abbrev pub WrongLineLength : List ℕ → Type 0
WrongLineLength bs = (3072 < line_length bs) ⊎ (line_length bs % 6 ≢ 0)

-- 8: the number of the record after the one at a position is not above that one's
abbrev pub SiteFalls : List ℕ → ℕ → Type 0
SiteFalls bs i = (i + 1 < site_count bs) × (site_number bs (i + 1) ≤ site_number bs i)

abbrev pub LineFalls : List ℕ → ℕ → Type 0
LineFalls bs j = (j + 1 < line_count bs) × (line_number bs (j + 1) ≤ line_number bs j)

-- a site record has the number
abbrev pub Listed : List ℕ → ℕ → Type 0
Listed bs n = (i : ℕ) × (i < site_count bs) × (site_number bs i ≡ n)

-- 9: a line names a site that is not in the site part, or one site twice
abbrev pub WrongEnds : List ℕ → ℕ → Type 0
WrongEnds bs j =
    (Listed bs (named_first bs j) → ⊥) ⊎ ((Listed bs (named_second bs j) → ⊥) ⊎ (named_first bs j ≡ named_second bs j))

-- each check with its places
abbrev pub Misplaced : List ℕ → ℕ → Type 0
Misplaced bs p = ((p ≡ 6) × SitesMisplaced bs) ⊎ ((p ≡ 10) × LinesMisplaced bs)

abbrev pub WrongLength : List ℕ → ℕ → Type 0
WrongLength bs p = ((p ≡ 8) × WrongSiteLength bs) ⊎ ((p ≡ 12) × WrongLineLength bs)

abbrev pub Falls : List ℕ → ℕ → Type 0
Falls bs p =
    ((i : ℕ) × (p ≡ site_start bs (i + 1)) × SiteFalls bs i) ⊎ ((j : ℕ) × (p ≡ line_start bs (j + 1)) × LineFalls bs j)

abbrev pub Unjoined : List ℕ → ℕ → Type 0
Unjoined bs p = (j : ℕ) × (j < line_count bs) × (p ≡ line_start bs j) × WrongEnds bs j

-- check n applies to the bytes at the place p
abbrev pub Applies : ℕ → List ℕ → ℕ → Type 0
Applies n bs p =
    cond (n == 2) ((p ≡ 0) × WrongSize bs)
    (cond (n == 3) ((p ≡ 0) × WrongSignature bs)
    (cond (n == 4) ((p ≡ 4) × WrongEdition bs)
    (cond (n == 5) ((p ≡ 5) × WrongPairCount bs)
    (cond (n == 6) (Misplaced bs p)
    (cond (n == 7) (WrongLength bs p)
    (cond (n == 8) (Falls bs p)
    (cond (n == 9) (Unjoined bs p)
    ⊥)))))))

-- check n applies at p and at no lower place, and no earlier check applies anywhere
pub record First (bs : List ℕ) (n p : ℕ) : Type 0 where
  pub applies : Applies n bs p
  pub lowest : (q : ℕ) → q < p → Applies n bs q → ⊥
  pub earliest : (m q : ℕ) → m < n → Applies m bs q → ⊥

-- the first fault of the bytes has the number n and the place p
abbrev pub FaultAt : List ℕ → ℕ → ℕ → Type 0
FaultAt bs n p = (e : NetworkFault) × (first_fault bs ≡ Some e) × (number_of e ≡ n) × (place_of e ≡ p)

-- the layer that a check belongs to
abbrev pub layer_for : ℕ → Layer
layer_for n = cond (nat_le n 7) File (cond (nat_le n 8) Record Network)

-- the fault is (n, p) exactly where check n applies at p first
abbrev pub DeniedByFirst : Type 0
DeniedByFirst = (bs : List ℕ) (n p : ℕ) → FaultAt bs n p ↔ First bs n p

-- there is none exactly where no check applies anywhere
abbrev pub AcceptedByNone : Type 0
AcceptedByNone = (bs : List ℕ) → (first_fault bs ≡ None) ↔ ((n p : ℕ) → Applies n bs p → ⊥)

-- checks 2 to 7 are the file layer's, 8 is the record layer's and 9 the network layer's
abbrev pub LayersByNumber : Type 0
LayersByNumber = (e : NetworkFault) → layer_of e ≡ layer_for (number_of e)
