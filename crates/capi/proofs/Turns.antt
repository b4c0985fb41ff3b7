-- A booking and its release leave a desk as it was, but for the count of bookings.
use Rattle.std.proofs.Common.{◌≡◌, ℕ, ◌+◌, ◌<◌, Bool, true, false, cond, List, [], ◌∷◌, ◌++◌, length, get_or, Some, None, Option, sym, refl, ap, ◌∙◌, subst, arith, rules}
use Rattle.std.specs.List.{remove}
use Rattle.std.proofs.lemmas.List.{ext_get_or}
use Rattle.std.proofs.lemmas.Bool.{eq-eqb}
use Rattle.network.specs.declared.line.Line.{Line}
use Rattle.network.specs.declared.line.LineState.TheVariants.{Free, Held}
use Rattle.network.specs.Lines.{line_at, no_line}
use Rattle.network.specs.Routes.{on_any}
use Rattle.book.specs.Ledger.{with_state}
use Rattle.book.specs.Tables.{held_by}
use Rattle.book.specs.Calls.{sites_of, lines_of, Taken, Freed}
use Rattle.desk.specs.declared.pass.Pass.{Pass}
use Rattle.desk.specs.declared.desk.Desk.{Desk}
use Rattle.desk.specs.Passes.{pass_with, numbers_of}
use Rattle.desk.specs.Desks.{passes_of, Kept, EndedAt, EndedNext}
use Rattle.capi.specs.Calls.{Idle, booking_number}

-- a free line that a booking takes or leaves, and that its release frees or leaves
back : (l l₁ l₂ : Line) (j : ℕ) (taken : Bool) → l.state ≡ Free → l₁ ≡ cond taken (with_state (Held j) l) l →
    l₂ ≡ cond (held_by j l₁.state) (with_state Free l₁) l₁ → l₂ ≡ l
back l l₁ l₂ j true free one two =
    two ∙ ap (λ (w : Line). cond (held_by j w.state) (with_state Free w) w) one
    ∙ ap (λ (t : Bool). cond t (with_state Free l) (with_state (Held j) l)) (eq-eqb j j refl)
    ∙ ap (λ s. with_state s l) (sym free)
back l l₁ l₂ j false free one two =
    two ∙ ap (λ (w : Line). cond (held_by j w.state) (with_state Free w) w) one
    ∙ ap (λ s. cond (held_by j s) (with_state Free l) l) free

one_pass_of : {E : Type 0} (d one : Desk E) (x y k m n : ℕ) → Idle d m → (kept : Kept d x y k one n) → passes_of one ≡ pass_with kept.ticket x ∷ []
one_pass_of d one x y k m n idle kept = kept.passes ∙ ap (λ (ps : List Pass). ps ++ pass_with kept.ticket x ∷ []) idle.passes

module _ {E : Type 0} (d one two : Desk E) (x y k m n j : ℕ) (idle : Idle d m) (kept : Kept d x y k one n) (ended : EndedAt one 0 two j) where
  one_pass : passes_of one ≡ pass_with kept.ticket x ∷ []
  one_pass = one_pass_of d one x y k m n idle kept

  -- what is released is what was booked
  same_number : j ≡ d.book.count + 1
  same_number =
      sym ended.here
      ∙ ap (λ (ps : List Pass). get_or (numbers_of ps) 0 0) one_pass
      ∙ kept.booked.1.ticket_number

  taken : Taken d.book x y k one.book kept.ticket
  taken = kept.booked.1

  freed : Freed one.book (d.book.count + 1) two.book
  freed = subst (λ (i : ℕ). Freed one.book i two.book) (ended.number ∙ same_number) ended.released.1

  size : length (lines_of two.book) ≡ length (lines_of d.book)
  size = freed.size ∙ taken.size

  pub same_lines : lines_of two.book ≡ lines_of d.book
  same_lines = ext_get_or no_line (lines_of two.book) (lines_of d.book) size
      (λ p lt. back (line_at (lines_of d.book) p) (line_at (lines_of one.book) p) (line_at (lines_of two.book) p) (d.book.count + 1)
      (on_any taken.routes p) (idle.free p (omega (arith, size))) (taken.line p (omega (arith, size))) (freed.line p (omega (arith, size, taken.size))))

  pub same_sites : sites_of two.book ≡ sites_of d.book
  same_sites = freed.sites ∙ taken.sites

  pub idle_again : Idle two (m + 1)
  idle_again = record {
    passes = ended.passes ∙ ap (λ (ps : List Pass). remove ps 0) one_pass;
    counted = freed.count ∙ taken.count ∙ ap (λ (i : ℕ). i + 1) idle.counted;
    free = subst (λ (ls : List Line). (p : ℕ) → p < length ls → (line_at ls p).state ≡ Free) (sym same_lines) idle.free;
  }

  pub not_denied : booking_number (sites_of d.book) (lines_of d.book) x y k ≡ 0
  not_denied = let none = kept.booked.0 in search rules

-- the whole turn, where the desk tells which booking it released
pub turned : {E : Type 0} (d one two : Desk E) (x y k m n : ℕ) (o : Option ℕ) → Idle d m → Kept d x y k one n → EndedNext one two o →
    Idle two (m + 1) × (sites_of two.book ≡ sites_of d.book) × (lines_of two.book ≡ lines_of d.book)
    × (booking_number (sites_of d.book) (lines_of d.book) x y k ≡ 0)
turned d one two x y k m n (Some j) idle kept ended = (
  idle_again d one two x y k m n j idle kept ended,
  same_sites d one two x y k m n j idle kept ended,
  same_lines d one two x y k m n j idle kept ended,
  not_denied d one two x y k m n j idle kept ended,
)
turned d one two x y k m n None idle kept ended =
    let empty : [] ≡ pass_with kept.ticket x ∷ [] = sym ended.0 ∙ one_pass_of d one x y k m n idle kept in
    let none : ◌≡◌ {A = ℕ} 0 1 = ap (λ (ps : List Pass). length ps) empty in
    absurd (omega (arith, none))
