use Rattle.book.proofs.Law.{showing_lawful}
use Rattle.book.proofs.held.Book.show.Goals as goal

pub returns : goal.returns
returns g c =
    record {
      showed = c.copy_out.ensures;
      lawful = showing_lawful c.args.self.now c.args.ticket.now c.args.list.now c.copy_out.new.list c.copy_out.result c.copy_out.ensures;
    }
