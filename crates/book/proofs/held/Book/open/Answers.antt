use Rattle.book.proofs.Law.{opened_lawful}
use Rattle.book.proofs.held.Book.open.Goals as goal

pub returns : goal.returns
returns g c =
    record {
      opened = c.begin.ensures;
      lawful = opened_lawful c.args.self.now c.args.bytes.now c.args.mark c.begin.new.self c.begin.result c.begin.ensures;
    }
