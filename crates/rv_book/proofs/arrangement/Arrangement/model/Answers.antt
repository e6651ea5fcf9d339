-- The order is lawful, since every edge goes forward.
use Rattle.rv_book.proofs.Common.{subst, Lawful, happened, Arranged, order_of}
use Rattle.rv_book.proofs.ForwardOrders.{lawful}
use Rattle.rv_book.proofs.arrangement.Arrangement.model.Goals as goal

pub returns-clause-lawful : goal.returns-clause-lawful
returns-clause-lawful c =
    let v : Arranged = record {
      model = c.self.inside.history.model;
      log = c.self.inside.history.log;
      history = c.self.inside.history.kept;
      edges = c.self.inside.ranks.edges;
      ranks = c.self.inside.ranks.ranks;
      ids = c.self.inside.ids.items;
    } in
    subst (λ (w : Arranged). Lawful w.model (happened w.history) (order_of w.ranks w.ids)) c.self.view_is
    (lawful v c.self.invariant)
