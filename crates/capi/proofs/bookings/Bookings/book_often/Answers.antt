use Rattle.std.proofs.Common.{◌≢◌, ◌<◌, cond, List, sym, ap, ◌∙◌, ap₂, arith}
use Rattle.std.proofs.lemmas.Bool.{ne_eqb}
use Rattle.network.specs.declared.line.Line.{Line}
use Rattle.network.specs.declared.site.Site.{Site}
use Rattle.book.specs.Calls.{sites_of, lines_of}
use Rattle.capi.specs.Calls.{booking_number}
use Rattle.capi.proofs.Denials.{by_fault, denied}
use Rattle.capi.proofs.Turns.{turned}
use Rattle.capi.proofs.bookings.Bookings.book_often.Goals as goal

pub returns-in_err-book_routes : goal.returns-in_err-book_routes
returns-in_err-book_routes g c =
    let w = c.args.self.now in
    let inv = c.loop-turn.invariant in
    let h = c.in_err-book_routes.ensures in
    let within : c.loop-turn.turn < w.turns = c.loop-turn-test.true in
    let unspent : c.loop-turn.desk.book.count < 65535 = omega (arith, inv.0.counted, within, c.fits-self) in
    let some : w.turns ≢ 0 = omega arith in
    record {
      answer =
          by_fault c.from_residual.result c.in_err-book_routes.field-0.0 c.from_residual.ensures.1
          ∙ denied c.loop-turn.desk.book w.first w.second w.k _ unspent h.0.0
          ∙ ap₂ (λ (ss : List Site) (ls : List Line). booking_number ss ls w.first w.second w.k) inv.1 inv.2
          ∙ sym (ap (λ t. cond t 0 (booking_number (sites_of c.args.desk.now.book) (lines_of c.args.desk.now.book) w.first w.second w.k)) (ne_eqb w.turns 0 some));
      sites = ap sites_of h.0.2 ∙ inv.1;
      lines = ap lines_of h.0.2 ∙ inv.2;
    }

pub loop-turn-preserved : goal.loop-turn-preserved
loop-turn-preserved g c =
    let w = c.args.self.now in
    let inv = c.loop-turn.invariant in
    let t = turned c.loop-turn.desk c.book_routes.new.self c.release_next.new.self w.first w.second w.k c.loop-turn.turn c.in_ok-book_routes.field-0
    c.release_next.result inv.0 c.in_ok-book_routes.ensures c.release_next.ensures in (
      t.0,
      t.1 ∙ inv.1,
      t.2 ∙ inv.2,
      λ _. sym (ap₂ (λ (ss : List Site) (ls : List Line). booking_number ss ls w.first w.second w.k) inv.1 inv.2) ∙ t.3,
    )
