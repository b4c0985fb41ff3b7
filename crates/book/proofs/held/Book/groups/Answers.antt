use Rattle.book.proofs.Law.{listing_lawful}
use Rattle.book.proofs.held.Book.groups.Goals as goal

pub returns : goal.returns
returns g c =
    record {
      listed = c.list_groups.ensures;
      lawful = listing_lawful c.args.self.now c.args.k c.args.list.now c.list_groups.new.list c.list_groups.result c.list_groups.ensures;
    }
