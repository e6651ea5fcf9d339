use Rattle.std.proofs.Common.{List, refl, sym, subst}
use Rattle.rv_flow.specs.Traces.{IsTraceOf, Traced}
use Rattle.rv_flow.specs.declared.step.Step.{Step}
use Rattle.rv_flow.proofs.Tracing.{rows-more}
use Rattle.rv_flow.proofs.trace.HartTrace.number_row.Goals as goal

-- a row more, which is no event's
more : (c : goal.After-number_row) (steps : List Step) → IsTraceOf steps (record {
  flow = c.self.inside.flow;
  carriers = c.self.inside.carriers.all.items;
  rows = c.self.inside.carriers.next;
}) → IsTraceOf steps (record {
  flow = c.self.inside.flow;
  carriers = c.number_row.new.self.all.items;
  rows = c.number_row.new.self.next;
})
more c steps = rows-more steps _ _ refl c.number_row.ensures.grown

pub invariant_of-self : goal.invariant_of-self
invariant_of-self c = (c.self.invariant.0, more c c.self.invariant.0 c.self.invariant.1)

pub returns-clause-still : goal.returns-clause-still
returns-clause-still c steps of =
    more c steps (subst (λ (t : Traced). IsTraceOf steps t) (sym c.self.view_is) of)
