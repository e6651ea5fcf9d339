-- What the hart's events say, the history's say.
use Rattle.rv_edges.proofs.Common.{Option, Some, None, sym, subst, Id, Hart, Follows, IsStaleBy, happened}
use Rattle.rv_edges.proofs.Common.{IsStaleOf, hart_in}
use Rattle.rv_edges.proofs.IndexFacts.{follows, hart-is, of_entries}
use Rattle.rv_edges.proofs.HartOfLog.{none_stale_of, stale_is, stale_was}
use Rattle.rv_edges.proofs.history.History.stale.Goals as goal

pub stale-requires-clause-of_log : goal.stale-requires-clause-of_log
stale-requires-clause-of_log c =
    of_entries c.args.self.now c.entries.result.now c.args.event.now.id.hart c.in_ok-hart.hart.now
    c.entries.ensures.events c.in_ok-hart.ensures.hart

pub stale-requires-clause-follows : goal.stale-requires-clause-follows
stale-requires-clause-follows c =
    let is = hart-is c.args.self.now c.entries.result.now c.args.event.now.id.hart c.in_ok-hart.hart.now
    c.entries.ensures.events c.in_ok-hart.ensures.hart in
    subst (λ (h : Hart). Follows h c.args.event.now) (sym is) (follows c.args.self.now c.args.event.now c.requires)

pub returns-in_err-hart : goal.returns-in_err-hart
returns-in_err-hart c =
    subst (IsStaleOf c.args.self.now.kept c.args.event.now) (sym c.from_residual.ensures)
    (none_stale_of c.args.self.now.model (happened c.args.self.now.kept) c.args.event.now c.hart.ensures.indexed
    c.requires c.in_err-hart.ensures.hart)

pub returns : goal.returns
returns c =
    let is = hart-is c.args.self.now c.entries.result.now c.args.event.now.id.hart c.in_ok-hart.hart.now
    c.entries.ensures.events c.in_ok-hart.ensures.hart in
    go c.stale.result (subst (λ (h : Hart). IsStaleBy h c.args.event.now c.stale.result) is c.stale.ensures)
  where
    go : (o : Option Id) → IsStaleBy (hart_in c.args.self.now c.args.event.now.id.hart) c.args.event.now o →
        IsStaleOf c.args.self.now.kept c.args.event.now o
    go None none = λ s p. none s (stale_was c.args.self.now.model (happened c.args.self.now.kept) c.args.event.now
        c.hart.ensures.indexed c.requires s p)
    go (Some s) p = stale_is c.args.self.now.model (happened c.args.self.now.kept) c.args.event.now
        c.hart.ensures.indexed c.requires s p
