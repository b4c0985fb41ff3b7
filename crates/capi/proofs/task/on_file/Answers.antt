use Rattle.std.proofs.Common.{◌≡◌, ℕ, ◌<◌, List, length, sym, ap, ◌∙◌, subst}
use Rattle.network.specs.declared.line.Line.{Line}
use Rattle.network.specs.declared.line.LineState.TheVariants.{Free}
use Rattle.network.specs.declared.site.Site.{Site}
use Rattle.network.specs.Lines.{line_at}
use Rattle.netfile.specs.Meaning.{sites_in}
use Rattle.book.specs.Calls.{lines_of}
use Rattle.book.proofs.Files.{file_facts}
use Rattle.cuttree.specs.Trees.{Lawful}
use Rattle.capi.proofs.Files.{lawful_file, opened_sound}
use Rattle.capi.proofs.task.on_file.Goals as goal

pub run-requires-clause-lawful : goal.run-requires-clause-lawful
run-requires-clause-lawful g c =
    let bs = c.args.bytes.now in
    let opened = c.in_ok-open.ensures.opened in
    let sound = opened_sound c.args.desk.now.book bs opened.0 in
    subst (λ (ss : List Site). Lawful (length ss) (lines_of c.«open».new.self.book)) (sym opened.1.sites)
    (subst (λ (ls : List Line). Lawful (length (sites_in bs)) ls) (sym opened.1.lines) (lawful_file bs sound))

pub run-requires-clause-idle : goal.run-requires-clause-idle
run-requires-clause-idle g c =
    let bs = c.args.bytes.now in
    let opened = c.in_ok-open.ensures.opened in
    let sound = opened_sound c.args.desk.now.book bs opened.0 in
    record {
      passes = ap (λ v. v.items) c.in_ok-open.ensures.keeps ∙ c.requires.passes;
      counted = opened.1.count;
      free = subst (λ (ls : List Line). (p : ℕ) → p < length ls → (line_at ls p).state ≡ Free) (sym opened.1.lines) (file_facts bs sound).all_free;
    }
