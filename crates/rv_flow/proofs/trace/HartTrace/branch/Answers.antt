use Rattle.std.proofs.Common.{sym, subst}
use Rattle.std.proofs.lemmas.Result.{IfOk-weaker}
use Rattle.rv_rows.specs.Bits.{Has}
use Rattle.rv_flow.specs.Traces.{AddsControl, Traced}
use Rattle.rv_flow.proofs.Tracing.{branch-control, branch-once}
use Rattle.rv_flow.proofs.trace.HartTrace.branch.Goals as goal

-- what is known of the rows
abbrev trace : goal.After-numbers_of → Traced
trace c = record {
  flow = c.self.inside.flow;
  carriers = c.self.inside.carriers.all.items;
  rows = c.self.inside.carriers.next;
}

pub returns-clause-once : goal.returns-clause-once
returns-clause-once c =
    IfOk-weaker c.numbers_of.result _ _
    (λ events numbers n listed tested.
    branch-once (trace c) c.args.insn c.tested_by-row.result c.subtract.new.self events.items c.tested_by-row.ensures
    c.subtract.ensures numbers n listed
    (subst (λ (t : Traced). Has t.flow.tested n) (sym c.self.view_is) tested))
    c.numbers_of.ensures

pub returns-clause-control : goal.returns-clause-control
returns-clause-control c =
    IfOk-weaker c.numbers_of.result _ _
    (λ events numbers.
    subst (λ (t : Traced). AddsControl t c.args.insn events.items) c.self.view_is
    (branch-control (trace c) c.args.insn c.tested_by-row.result c.subtract.new.self events.items
    c.tested_by-row.ensures c.subtract.ensures numbers))
    c.numbers_of.ensures
