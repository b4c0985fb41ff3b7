use Rattle.book.proofs.Law.{booking_lawful}
use Rattle.book.proofs.held.Book.book.Goals as goal

pub returns : goal.returns
returns g c =
    record {
      booked = c.enter.ensures;
      lawful = booking_lawful c.args.self.now c.args.first c.args.second c.args.k c.enter.new.self c.enter.result c.enter.ensures;
    }
