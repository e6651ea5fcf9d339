-- Each event stands beside its links.
use Rattle.rv_edges.proofs.Common.{subst, sym, ap, ◌∙◌, ◌≡◌, events, List, Link, Past, kept_from, IsCarried}
use Rattle.std.specs.Prelude.{IfOk}
use Rattle.rv_edges.specs.Kept.{links_of}
use Rattle.rv_edges.proofs.CarriedEdges.{carried_from_IsHistory}
use Rattle.rv_edges.proofs.Sides.{links_of-kept_from}
use Rattle.rv_edges.proofs.history.History.links.Goals as goal

pub returns-clause-value : goal.returns-clause-value
returns-clause-value c =
    let here = links_of-kept_from (events c.self.inside.versions) c.self.inside.links c.self.invariant.lengths in
    let all = sym here ∙ ap (λ (w : Past). links_of w.kept) c.self.view_is in
    subst (λ (ls : List Link). IfOk c.all.result (λ links. links.items ≡ ls)) all c.all.ensures

pub returns-clause-carried : goal.returns-clause-carried
returns-clause-carried c =
    subst (λ (w : Past). IsCarried w.model w.kept) c.self.view_is
    (carried_from_IsHistory c.self.inside.model (kept_from (events c.self.inside.versions) c.self.inside.links)
    c.self.invariant.history)
