use Rattle.std.proofs.Common.{◌≡◌, ◌<◌, ℕ, Some, List, ap, sym, subst, ◌∙◌, arith}
use Rattle.std.proofs.lemmas.Option.{same_Some}
use Rattle.rv_flow.specs.Flows.{with_next}
use Rattle.rv_flow.specs.Traces.{IsTraceOf, Traced}
use Rattle.rv_flow.specs.declared.step.Step.{Step}
use Rattle.rv_flow.proofs.Tracing.{trace-pushed, trace-same}
use Rattle.rv_flow.proofs.trace.HartTrace.push_event.Goals as goal

-- the instruction came, with its row
pushed : (c : goal.In-Ok) (steps : List Step) → IsTraceOf steps (record {
  flow = c.self.inside.flow;
  carriers = c.self.inside.carriers.all.items;
  rows = c.self.inside.carriers.next;
}) → IsTraceOf (with_next steps (record { insn = c.args.insn; event = Some c.in_ok-number.number })) (record {
  flow = c.push.new.self;
  carriers = c.number_row.new.self.all.items;
  rows = c.number_row.new.self.next;
})
pushed c steps of =
    trace-pushed steps _ _ _ of (c.in-Ok.ensures.taken steps of.flow) (ap (λ v. v.items) c.number_row.ensures.same)
    c.number_row.ensures.grown.are c.number_row.ensures.grown.next (λ n is. (number n (same_Some _ n is), more))
  where
    at : c.in_ok-number.number ≡ c.self.inside.carriers.next
    at = c.in_ok-number.ensures.numbered.0

    number : (n : ℕ) → c.in_ok-number.number ≡ n → n ≡ c.self.inside.carriers.next
    number n is = sym is ∙ at

    more : c.self.inside.carriers.next < c.number_row.new.self.next
    more = let one = c.in_ok-number.ensures.numbered.1 in let first = at in omega (one, first, arith)

-- src/trace.rt:154:23
pub invariant_of-self-in-Ok : goal.invariant_of-self-in-Ok
invariant_of-self-in-Ok c = (_, pushed c c.self.invariant.0 c.self.invariant.1)

-- src/trace.rt:157:17
pub invariant_of-self-in-Err : goal.invariant_of-self-in-Err
invariant_of-self-in-Err c = (
  c.self.invariant.0,
  trace-same c.self.invariant.0 _ _ c.in-Err.ensures.kept (ap (λ v. v.items) c.number_row.ensures.same)
      c.in_ok-number.ensures.numbered.0 c.self.invariant.1,
)

-- src/trace.rt:144:5
pub returns-in-Ok-clause-taken : goal.returns-in-Ok-clause-taken
returns-in-Ok-clause-taken c steps of =
    pushed c steps (subst (λ (t : Traced). IsTraceOf steps t) (sym c.self.view_is) of)
