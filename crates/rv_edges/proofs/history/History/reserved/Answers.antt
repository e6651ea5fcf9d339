-- The LR is one of the hart's events, and so one of the history's.
use Rattle.rv_edges.proofs.Common.{arith, common_steps, Some, None, refl, sym, subst, Hart, Follows, IsReserved}
use Rattle.rv_edges.proofs.Common.{happened, hart_in}
use Rattle.rv_hart.specs.Kept.{IsPartner}
use Rattle.rv_edges.proofs.IndexFacts.{follows, hart-is, of_entries}
use Rattle.rv_edges.proofs.HartOfLog.{partner_from, partner_to}
use Rattle.rv_edges.proofs.history.History.reserved.Goals as goal

pub partner-requires-clause-of_log : goal.partner-requires-clause-of_log
partner-requires-clause-of_log c =
    of_entries c.args.self.now c.entries.result.now c.args.event.now.id.hart c.in_ok-hart.hart.now
    c.entries.ensures.events c.in_ok-hart.ensures.hart

pub partner-requires-clause-follows : goal.partner-requires-clause-follows
partner-requires-clause-follows c =
    let is = hart-is c.args.self.now c.entries.result.now c.args.event.now.id.hart c.in_ok-hart.hart.now
    c.entries.ensures.events c.in_ok-hart.ensures.hart in
    subst (λ (h : Hart). Follows h c.args.event.now) (sym is) (follows c.args.self.now c.args.event.now c.requires)

pub returns-in_err-lr : goal.returns-in_err-lr
returns-in_err-lr c =
    let is = hart-is c.args.self.now c.entries.result.now c.args.event.now.id.hart c.in_ok-hart.hart.now
    c.entries.ensures.events c.in_ok-hart.ensures.hart in
    let none : IsPartner (hart_in c.args.self.now c.args.event.now.id.hart) c.args.event.now None =
    subst (λ (h : Hart). IsPartner h c.args.event.now None) is c.in_err-lr.ensures in
    subst (IsReserved (happened c.args.self.now.kept) c.args.event.now) (sym c.from_residual-in_err-lr.ensures)
    (λ lr p. let q = partner_to c.args.self.now.model (happened c.args.self.now.kept) c.args.event.now
    c.hart.ensures.indexed c.requires lr p in none lr q.0 q.1)

pub returns-in_err-hart : goal.returns-in_err-hart
returns-in_err-hart c = grind (arith, common_steps)

pub returns : goal.returns
returns c =
    let is = hart-is c.args.self.now c.entries.result.now c.args.event.now.id.hart c.in_ok-hart.hart.now
    c.entries.ensures.events c.in_ok-hart.ensures.hart in
    let some : IsPartner (hart_in c.args.self.now c.args.event.now.id.hart) c.args.event.now (Some c.in_ok-lr.lr.now) =
    subst (λ (h : Hart). IsPartner h c.args.event.now (Some c.in_ok-lr.lr.now)) is c.in_ok-lr.ensures in (
      c.in_ok-lr.lr.now,
      partner_from c.args.self.now.model (happened c.args.self.now.kept) c.args.event.now
          c.hart.ensures.indexed c.requires c.in_ok-lr.lr.now some.0 some.1,
      refl,
      refl,
    )
