use Rattle.std.proofs.Common.{List, ap, refl, sym, subst}
use Rattle.rv_flow.specs.Traces.{IsTraceOf, Traced}
use Rattle.rv_flow.specs.declared.step.Step.{Step}
use Rattle.rv_flow.proofs.Dependents.{address-source, data-source}
use Rattle.rv_insn.specs.Roles.{address_source, data_source}
use Rattle.rv_flow.proofs.Tracing.{events-of-next, next-lists, rows-more}
use Rattle.rv_flow.proofs.trace.HartTrace.lists.Goals as goal

-- src/trace.rt
pub lists-requires-clause-address : goal.lists-requires-clause-address
lists-requires-clause-address c =
    events-of-next address_source address-source _ c.self.invariant c.args.insn c.address-address.result.now
    c.address-address.ensures

pub lists-requires-clause-value : goal.lists-requires-clause-value
lists-requires-clause-value c =
    events-of-next data_source data-source _ c.self.invariant c.args.insn c.data-value.result.now c.data-value.ensures

-- rows more, which are carriers
more : (c : goal.After-lists) (steps : List Step) → IsTraceOf steps (record {
  flow = c.self.inside.flow;
  carriers = c.self.inside.carriers.all.items;
  rows = c.self.inside.carriers.next;
}) → IsTraceOf steps (record {
  flow = c.self.inside.flow;
  carriers = c.lists.new.self.all.items;
  rows = c.lists.new.self.next;
})
more c steps = rows-more steps _ _ refl c.lists.ensures.grown

pub invariant_of-self : goal.invariant_of-self
invariant_of-self c = (c.self.invariant.0, more c c.self.invariant.0 c.self.invariant.1)

pub returns-clause-still : goal.returns-clause-still
returns-clause-still c steps of =
    more c steps (subst (λ (t : Traced). IsTraceOf steps t) (sym c.self.view_is) of)

pub returns-clause-lists : goal.returns-clause-lists
returns-clause-lists c = next-lists c.lists.result c.args.self.now _ c.lists.new.self c.self.inside.flow c.args.insn
    c.address-address.result.now c.data-value.result.now (ap (λ (t : Traced). t.flow) c.self.view_is) refl refl
    c.address-address.ensures c.data-value.ensures c.lists.ensures.lists
