-- Each event stands beside its links.
use Rattle.rv_edges.proofs.Common.{IsCarried, Past, events, kept_from, subst}
use Rattle.rv_edges.proofs.CarriedEdges.{carried_from_IsHistory}
use Rattle.rv_edges.proofs.history.History.ties.Goals as goal

pub returns-clause-carried : goal.returns-clause-carried
returns-clause-carried c =
    subst (λ (w : Past). IsCarried w.model w.kept) c.self.view_is
    (carried_from_IsHistory c.self.inside.model (kept_from (events c.self.inside.versions) c.self.inside.links)
    c.self.invariant.history)
