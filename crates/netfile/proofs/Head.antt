-- What the header says stands in its own bytes, the first 14 of the file.
use Rattle.std.proofs.Common.{◌≡◌, ℕ, ◌<◌, List, take, get_or, arith}
use Rattle.std.proofs.lemmas.List.{get_or-take}
use Rattle.netfile.specs.Headers.{header_in}
use Rattle.netfile.specs.Meaning.{signature_fault, edition_fault, pair_count_fault}

module _ (bs : List ℕ) where
  head_byte : (i : ℕ) → i < 14 → get_or (take 14 bs) i 0 ≡ get_or bs i 0
  head_byte i h = get_or-take 14 bs i 0 h

  pub signature_in_head : signature_fault (take 14 bs) ≡ signature_fault bs
  signature_in_head = rw (head_byte 0 (omega arith), head_byte 1 (omega arith), head_byte 2 (omega arith), head_byte 3 (omega arith))

  pub edition_in_head : edition_fault (take 14 bs) ≡ edition_fault bs
  edition_in_head = rw (head_byte 4 (omega arith))

  pub pair_count_in_head : pair_count_fault (take 14 bs) ≡ pair_count_fault bs
  pair_count_in_head = rw (head_byte 5 (omega arith))

  pub pairs_in_head : header_in (take 14 bs) ≡ header_in bs
  pairs_in_head =
      rw (head_byte 6 (omega arith), head_byte 7 (omega arith), head_byte 8 (omega arith), head_byte 9 (omega arith), head_byte 10 (omega arith), head_byte 11 (omega arith), head_byte 12 (omega arith), head_byte 13 (omega arith))

pub ruleset in_head = (signature_in_head, edition_in_head, pair_count_in_head, pairs_in_head)
