-- The log whose versions are kept has the events of the history, which are few.
use Rattle.rv_edges.proofs.Common.{◌≤◌, List, length, ap, sym, ◌∙◌, subst, events, Entry}
use Rattle.std.proofs.Common.{rules}
use Rattle.rv_edges.proofs.IndexFacts.{log-is, past-few, past-indexed}
use Rattle.rv_edges.proofs.history.History.entries.Goals as goal

pub returns-clause-events : goal.returns-clause-events
returns-clause-events c = ap events c.entries.ensures.value
    ∙ log-is c.self.inside.model c.self.inside.versions c.self.inside.harts.items c.self.inside.links c.self.invariant
    c.args.self.now c.self.view_is

pub returns-clause-few : goal.returns-clause-few
returns-clause-few c =
    subst (λ (xs : List Entry). length xs ≤ 65536) (sym c.entries.ensures.value)
    (past-few c.self.inside.model c.self.inside.versions c.self.inside.harts.items c.self.inside.links c.self.invariant
    c.args.self.now c.self.view_is)

pub returns-clause-indexed : goal.returns-clause-indexed
returns-clause-indexed c = search (past-indexed, rules)
