use Rattle.rv_event.proofs.Common.{events}
use Rattle.rv_event.proofs.Carrying.{control-carrying}
use Rattle.rv_event.proofs.relations.control_depends_on.Goals as goal

pub returns : goal.returns
returns c = (
  λ yes. (control-carrying (events c.args.log.now) c.args.a.now c.args.b.now c.carriers_of.result
      c.carriers_of.ensures).0 (c.has_dependent_branch.ensures.0 yes),
  λ depends. c.has_dependent_branch.ensures.1
      ((control-carrying (events c.args.log.now) c.args.a.now c.args.b.now c.carriers_of.result c.carriers_of.ensures).1
      depends),
)
