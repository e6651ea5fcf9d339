use Rattle.std.proofs.Common.{None, refl, sym, subst}
use Rattle.rv_flow.specs.Traces.{IsTraceOf, Traced}
use Rattle.rv_flow.proofs.Tracing.{trace-after, trace-next}
use Rattle.rv_flow.proofs.trace.HartTrace.push.Goals as goal

pub invariant_of-self : goal.invariant_of-self
invariant_of-self c =
    trace-after c.push.result c.self.invariant.0 (record { insn = c.args.insn; event = None }) _ _ refl
    c.push.ensures.kept (c.push.ensures.taken c.self.invariant.0) refl refl c.self.invariant.1

pub returns-clause-taken : goal.returns-clause-taken
returns-clause-taken c steps of =
    trace-next c.push.result steps (record { insn = c.args.insn; event = None }) _ _ refl
    (c.push.ensures.taken steps) refl refl (subst (λ (t : Traced). IsTraceOf steps t) (sym c.self.view_is) of)
