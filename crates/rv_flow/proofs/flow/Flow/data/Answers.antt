use Rattle.rv_insn.specs.Roles.{data_source}
use Rattle.rv_flow.proofs.Dependents.{data-source, role-of-next}
use Rattle.rv_flow.proofs.flow.Flow.data.Goals as goal

pub returns : goal.returns
returns c = role-of-next data_source data-source c.args.self.now c.args.insn c.held.result.now
    (λ n. rw c.data_source.ensures at c.held.ensures n)
