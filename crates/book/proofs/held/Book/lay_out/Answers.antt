use Rattle.std.proofs.Common.{◌≡◌, ℕ, ◌<◌, List, length, vec_items, vec_len, sym, refl, ap, ◌∙◌, subst₂, arith, rules}
use Rattle.network.specs.declared.line.Line.{Line}
use Rattle.network.specs.declared.line.LineState.TheVariants.{Free}
use Rattle.network.specs.Lines.{AllJoin, line_at}
use Rattle.netfile.specs.Meaning.{sites_in, lines_in}
use Rattle.book.specs.Tables.{total_held}
use Rattle.book.proofs.Places.{tells_moved, fits_moved}
use Rattle.book.proofs.Files.{file_facts}
use Rattle.book.proofs.Fresh.{empty_book, all_free, none_owned}
use Rattle.book.proofs.Rows.{sound_none}
use Rattle.book.proofs.held.Book.lay_out.Goals as goal

pub lay-requires-clause-room : goal.lay-requires-clause-room
lay-requires-clause-room g c =
    let file = c.args.file.now in omega (arith, c.site_count.ensures, (file_facts file.bytes.now file.accepted).few_sites, c.args.self.now.site_room)

pub lay-requires-2-clause-room : goal.lay-requires-2-clause-room
lay-requires-2-clause-room g c =
    let file = c.args.file.now in omega (arith, c.line_count.ensures, (file_facts file.bytes.now file.accepted).few_lines, c.args.self.now.line_room)

pub tree_of-self-requires : goal.tree_of-self-requires
tree_of-self-requires g c =
    let file = c.args.file.now in let facts = file_facts file.bytes.now file.accepted in
    let ss : vec_items c.lay.new.list ≡ sites_in file.bytes.now = c.lay.ensures.items (sites_in file.bytes.now) (sym c.site_count.ensures) (λ i r l e. search rules) in
    let ls : vec_items c.lay-2.new.list ≡ lines_in file.bytes.now = c.lay-2.ensures.items (lines_in file.bytes.now) (sym c.line_count.ensures) (λ i r l e. search rules) in
    fits_moved (length (sites_in file.bytes.now)) (length c.deref.result.now) (lines_in file.bytes.now) c.deref-2.result.now
    (sym (ap length (c.deref.ensures.value ∙ ss))) (sym (c.deref-2.ensures.value ∙ ls))
    (record { few_sites = facts.few_sites; few_lines = facts.few_lines; joined = facts.joined })

pub invariant_of-self : goal.invariant_of-self
unfolding total_held
invariant_of-self g c =
    let b = c.args.self.now in
    let file = c.args.file.now in
    let facts = file_facts file.bytes.now file.accepted in
    let none = empty_book b c.requires in
    let ls' = vec_items c.lay-2.new.list in
    let ss : vec_items c.lay.new.list ≡ sites_in file.bytes.now = c.lay.ensures.items (sites_in file.bytes.now) (sym c.site_count.ensures) (λ i r l e. search rules) in
    let e : ls' ≡ lines_in file.bytes.now = c.lay-2.ensures.items (lines_in file.bytes.now) (sym c.line_count.ensures) (λ i r l e. search rules) in
    let n : vec_len c.lay.new.list ≡ length (sites_in file.bytes.now) = c.lay.new.list.ok.0 ∙ ap length ss in
    let m : vec_len c.lay-2.new.list ≡ length ls' = c.lay-2.new.list.ok.0 in
    let free : (p : ℕ) → p < length ls' → (line_at ls' p).state ≡ Free =
    λ p l. ap (λ (z : List Line). (line_at z p).state) e ∙ facts.all_free p (omega (arith, l, ap length e)) in
    record {
      site_room = omega (arith, b.site_room, c.lay.ensures.capacity);
      line_room = omega (arith, b.line_room, c.lay-2.ensures.capacity);
      row_room = b.row_room;
      shown_room = b.shown_room;
      few_sites = omega (arith, n, facts.few_sites);
      few_lines = omega (arith, m, ap length e, facts.few_lines);
      joined = subst₂ (λ (z : ℕ) (l : List Line). AllJoin z l) (sym n) (sym e) facts.joined;
      parted = omega (arith, ap total_held none.rows, all_free ls' free, m);
      totals = b.totals;
      rises = rw none.rows (sound_none ls' 0 b.count (omega arith));
      given = λ j l. none_owned ls' free j;
      spans = c.tree_of-self.ensures.spans ∙ c.deref.ensures.len;
      tells = tells_moved (length c.deref.result.now) (vec_len c.lay.new.list) c.deref-2.result.now ls' c.tree_of-self.result c.deref.ensures.len c.deref-2.ensures.value
          c.tree_of-self.ensures.tells;
      unopened = λ z. absurd (omega (arith, z, n, facts.some_site));
    }

pub returns : goal.returns
returns g c =
    let file = c.args.file.now in
    let none = empty_book c.args.self.now c.requires in
    record {
      sites = c.lay.ensures.items (sites_in file.bytes.now) (sym c.site_count.ensures) (λ i r l e. search rules);
      lines = c.lay-2.ensures.items (lines_in file.bytes.now) (sym c.line_count.ensures) (λ i r l e. search rules);
      rows = none.rows;
      shown = none.shown;
      mark = refl;
      count = none.count;
    }
