-- What holding the lines of listed routes does.
use Rattle.std.proofs.Common.{◌≡◌, ℕ, ◌+◌, ◌<◌, ◌≤◌, true, cond, ◌≢◌, List, length, sym, refl, ap, ◌∙◌, arith}
use Rattle.network.specs.declared.line.Line.{Line}
use Rattle.network.specs.declared.line.LineState.TheVariants.{Held}
use Rattle.network.specs.Lines.{line_at}
use Rattle.network.specs.Lists.{among}
use Rattle.network.specs.Routes.{FreeRoutes, on_any, written, encoded}
use Rattle.book.specs.Ledger.{with_state}
use Rattle.book.specs.Tables.{lines_on, free_count}
use Rattle.book.specs.Listings.{positions_told, numbers_told, given_to}
use Rattle.book.proofs.Listings.{all_of, positions_written, numbers_written, among_all, length_written, length_given, line_given}
use Rattle.book.proofs.Marks.{on_any_below, lines_on_many, free_taken}

-- xs lists free separate routes
module _ (ls : List Line) (a b k : ℕ) (rs : List (List ℕ)) (xs : List ℕ)
    (chosen : FreeRoutes ls a b k rs) (e : xs ≡ written (λ p. p) rs) where
  told : positions_told 0 xs ≡ all_of rs
  told = ap (positions_told 0) e ∙ positions_written rs

  on_told : (p : ℕ) → among (positions_told 0 xs) p ≡ on_any rs p
  on_told p = ap (λ (ps : List ℕ). among ps p) told ∙ among_all rs p

  pub told_inside : (p : ℕ) → among (positions_told 0 xs) p ≡ true → p < length ls
  told_inside p h = on_any_below ls a b rs p chosen.separates.routes (sym (on_told p) ∙ h)

  pub told_length : length xs ≡ k + lines_on rs
  told_length = ap length e ∙ length_written (λ p. p) rs ∙ ap (λ (n : ℕ). n + lines_on rs) chosen.separates.many

  pub told_numbers : numbers_told ls 0 xs ≡ encoded ls rs
  told_numbers = ap (numbers_told ls 0) e ∙ numbers_written ls rs

  pub encoded_length : length (encoded ls rs) ≡ length xs
  encoded_length = length_written (λ p. (line_at ls p).number) rs ∙ sym (ap length e ∙ length_written (λ p. p) rs)

  pub told_some : a ≢ b → k ≤ lines_on rs
  told_some ne = omega (arith, lines_on_many ls a b rs ne chosen.separates.routes, chosen.separates.many)

  -- the table with these lines given to n
  module _ (n : ℕ) (ls' : List Line) (given : ls' ≡ given_to n (positions_told 0 xs) ls) where
    pub given_size : length ls' ≡ length ls
    given_size = ap length given ∙ length_given n (positions_told 0 xs) ls

    pub given_line : (p : ℕ) → p < length ls → line_at ls' p ≡ cond (on_any rs p) (with_state (Held n) (line_at ls p)) (line_at ls p)
    given_line p l =
        ap (λ (t : List Line). line_at t p) given ∙ line_given n (positions_told 0 xs) ls p l
        ∙ ap (λ t. cond t (with_state (Held n) (line_at ls p)) (line_at ls p)) (on_told p)

  -- so many lines are free, and those that are left free
  pub lines_left : (f : ℕ) × (free_count ls ≡ f + lines_on rs)
  lines_left =
      let ls' = given_to 0 (positions_told 0 xs) ls in
      (free_count ls', free_taken ls ls' a b k rs 0 chosen (given_size 0 ls' refl) (given_line 0 ls' refl))
