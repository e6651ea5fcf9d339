use Rattle.rv_insn.specs.Roles.{address_source}
use Rattle.rv_flow.proofs.Dependents.{address-source, role-of-next}
use Rattle.rv_flow.proofs.flow.Flow.address.Goals as goal

pub returns : goal.returns
returns c = role-of-next address_source address-source c.args.self.now c.args.insn c.held.result.now
    (λ n. rw c.address_source.ensures at c.held.ensures n)
