-- The hart's links, or none where it has no events.
use Rattle.rv_edges.proofs.Common.{arith, common_steps, sym, subst, Hart, Follows, IsReturned}
use Rattle.std.proofs.Common.{rules}
use Rattle.rv_edges.proofs.IndexFacts.{follows, hart-is, of_entries}
use Rattle.rv_edges.proofs.history.History.rule_links.Goals as goal

pub before-requires-clause-of_log : goal.before-requires-clause-of_log
before-requires-clause-of_log c =
    of_entries c.args.self.now c.entries.result.now c.args.event.now.id.hart c.in-Some.hart.now
    c.entries.ensures.events c.in-Some.ensures.hart

pub before-requires-clause-follows : goal.before-requires-clause-follows
before-requires-clause-follows c =
    let is = hart-is c.args.self.now c.entries.result.now c.args.event.now.id.hart c.in-Some.hart.now
    c.entries.ensures.events c.in-Some.ensures.hart in
    subst (λ (h : Hart). Follows h c.args.event.now) (sym is)
    (follows c.args.self.now c.args.event.now c.requires.sound)

pub before-requires-clause-returned : goal.before-requires-clause-returned
before-requires-clause-returned c =
    let is = hart-is c.args.self.now c.entries.result.now c.args.event.now.id.hart c.in-Some.hart.now
    c.entries.ensures.events c.in-Some.ensures.hart in
    subst (λ (h : Hart). IsReturned h c.args.event.now c.args.returned) (sym is) c.requires.returned

pub returns-in-Some : goal.returns-in-Some
returns-in-Some c =
    let is = hart-is c.args.self.now c.entries.result.now c.args.event.now.id.hart c.in-Some.hart.now
    c.entries.ensures.events c.in-Some.ensures.hart in
    search rules

pub returns-in-None : goal.returns-in-None
returns-in-None c = grind (arith, common_steps)
