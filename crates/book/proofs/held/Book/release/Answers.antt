use Rattle.std.proofs.Common.{◌≡◌, ℕ, ◌<◌, length, vec_items, vec_len, sym, ap, ◌∙◌, inl, inr, arith, rules}
use Rattle.std.proofs.lemmas.Bool.{cases_eq}
use Rattle.network.specs.declared.line.LineState.TheVariants.{Free}
use Rattle.network.specs.Lines.{line_at}
use Rattle.book.specs.Tables.{held_by, total_shown, total_held, without, owned}
use Rattle.book.proofs.Places.{tells_moved}
use Rattle.book.proofs.Rows.{sound_without, sound_own, shown_without, held_without}
use Rattle.book.proofs.Marks.{joined_still, free_back, owned_rest, owned_gone}
use Rattle.book.proofs.held.Book.release.Goals as goal

pub invariant_of-self : goal.invariant_of-self
invariant_of-self g c =
    let b = c.args.self.now in
    let ls = vec_items b.lines in
    let ls' = vec_items c.free_all.new.lines in
    let rows = vec_items b.standing in
    let j = c.args.ticket.number in
    let at = c.in-Some.stretch in
    let f = c.in-Some.ensures.1 in
    let size : length ls' ≡ length ls = sym c.free_all.new.lines.ok.0 ∙ c.free_all.ensures.len ∙ b.lines.ok.0 in
    let line = λ (p : ℕ) (l : p < length ls). c.free_all.ensures.line p (omega (arith, l, b.lines.ok.0)) in
    let own = sound_own ls 0 b.count j rows b.rises f.here in
    let back = free_back ls ls' j size line in
    let rest = owned_rest ls ls' j size line in
    let items : vec_items c.remove.new.self ≡ without j rows = c.remove.ensures.items ∙ f.rest in
    record {
      site_room = search rules;
      line_room = search rules;
      row_room = search rules;
      shown_room = search rules;
      few_sites = search rules;
      few_lines = search rules;
      joined = joined_still (vec_len b.sites) ls ls' (λ p. held_by j (line_at ls p).state) Free size line b.joined;
      parted = let t = held_without j rows f.here in let e = ap total_held items in omega (arith, e, t, back, own, b.parted, c.free_all.ensures.len);
      totals = let t = shown_without j rows f.here in ap total_shown items ∙ omega (arith, t, b.totals, c.cut_out.ensures.len, f.many);
      rises = rw items (sound_without ls ls' 0 b.count j rows b.rises rest);
      given = λ m l. elim (cases_eq j m) [ inl e ↦ ap (owned ls') (sym e) ∙ owned_gone ls ls' j size line | inr ne ↦ rest m ne ∙ b.given m l ];
      spans = c.tree_of-self.ensures.spans ∙ c.deref.ensures.len;
      tells = tells_moved (length c.deref.result.now) (vec_len b.sites) c.deref-2.result.now ls' c.tree_of-self.result c.deref.ensures.len c.deref-2.ensures.value c.tree_of-self.ensures.tells;
      unopened = b.unopened;
    }
