use Rattle.rv_event.proofs.Common.{◌↔◌, DependsOn, events}
use Rattle.rv_event.specs.Carried.{DependsBy}
use Rattle.rv_event.proofs.Carrying.{depends-carrying}
use Rattle.rv_event.proofs.carriers.depends_through.Goals as goal

pub returns : goal.returns
returns c = (
  λ yes. both.0 (c.depends_by.ensures.0 yes),
  λ depends. c.depends_by.ensures.1 (both.1 depends),
)
  where
    both : DependsBy c.args.kind c.args.event.now c.args.on.now c.carriers_of.result ↔
        DependsOn (events c.args.log.now) c.args.kind c.args.event.now c.args.on.now
    both = depends-carrying (events c.args.log.now) c.args.on.now c.args.kind c.args.event.now c.carriers_of.result
        c.carriers_of.ensures
