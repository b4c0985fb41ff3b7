-- A book that holds no network has empty tables, and lines that are just laid out are all free.
use Rattle.std.proofs.Common.{◌≡◌, ℕ, ◌<◌, List, [], length, vec_len, ap, inl, inr, arith}
use Rattle.std.proofs.lemmas.List.{nil_from_length}
use Rattle.std.proofs.lemmas.Bool.{cases_eq}
use Rattle.network.specs.declared.line.Line.{Line}
use Rattle.network.specs.declared.line.LineState.TheVariants.{Free}
use Rattle.network.specs.Lines.{is_free, line_at, AllJoin}
use Rattle.book.specs.declared.held.Book.{Book}
use Rattle.book.specs.Tables.{held_by, free_count, owned}
use Rattle.book.specs.Calls.{lines_of, rows_of, shown_of}
use Rattle.book.proofs.Tallies.{tally_all, tally_zero}
use Rattle.book.proofs.Rows.{sound_length, sound_shown}

-- no line joins places of a network without sites
no_lines : (n : ℕ) (ls : List Line) → AllJoin n ls → n ≡ 0 → length ls ≡ 0
no_lines n ls j z =
    elim (cases_eq (length ls) 0) [
      | inl e ↦ e
      | inr ne ↦ let first = (j 0 (omega arith)).0 in absurd (omega (arith, first, z))
    ]

pub record Empty {E : Type 0} (b : Book E) : Type 0 where
  pub lines : lines_of b ≡ []
  pub rows : rows_of b ≡ []
  pub shown : shown_of b ≡ []
  pub count : b.count ≡ 0

pub empty_book : {E : Type 0} (b : Book E) → vec_len b.sites ≡ 0 → Empty b
empty_book b z =
    let none = no_lines (vec_len b.sites) (lines_of b) b.joined z in
    let rows = sound_length (lines_of b) 0 b.count (rows_of b) b.rises in
    let shown = sound_shown (lines_of b) 0 b.count (rows_of b) b.rises in
    record {
      lines = nil_from_length (lines_of b) none;
      rows = nil_from_length (rows_of b) (omega (arith, none, rows, b.parted, b.lines.ok.0));
      shown = nil_from_length (shown_of b) (omega (arith, none, shown, b.parted, b.totals, b.lines.ok.0, b.shown.ok.0));
      count = (b.unopened z).1;
    }

module _ (ls : List Line) (free : (p : ℕ) → p < length ls → (line_at ls p).state ≡ Free) where
  pub all_free : free_count ls ≡ length ls
  all_free = tally_all (λ p. is_free (line_at ls p).state) (length ls) (λ p l. ap is_free (free p l))

  pub none_owned : (n : ℕ) → owned ls n ≡ 0
  none_owned n = tally_zero (λ p. held_by n (line_at ls p).state) (length ls) (λ p l. ap (held_by n) (free p l))
