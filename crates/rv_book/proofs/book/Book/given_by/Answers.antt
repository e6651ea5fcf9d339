use Rattle.rv_book.proofs.Common.{ap, ◌∙◌, Booked, count_of_source}
use Rattle.rv_book.proofs.TakenEvents.{counted}
use Rattle.rv_book.proofs.book.Book.given_by.Goals as goal

pub returns : goal.returns
returns c = counted c.count_of_source.result c.args.source c.self.inside.arrangement.log
    (c.count_of_source.ensures c.self.inside.arrangement.log c.self.invariant.1)
    ∙ ap (λ (b : Booked). count_of_source b.log c.args.source) c.self.view_is
