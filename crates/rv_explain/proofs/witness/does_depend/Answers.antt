use Rattle.rv_event.proofs.Carrying.{depends-carrying}
use Rattle.std.proofs.Common.{◌↔◌}
use Rattle.rv_event.specs.Carried.{DependsBy}
use Rattle.rv_event.specs.Log.{events}
use Rattle.rv_event.specs.Relations.{DependsOn}
use Rattle.rv_explain.proofs.witness.does_depend.Goals as goal

pub returns : goal.returns
returns c = (
  λ yes. both.0 (c.depends_by.ensures.0 yes),
  λ depends. c.depends_by.ensures.1 (both.1 depends),
)
  where
    both : DependsBy c.args.kind c.args.event.now c.args.a.now c.args.carriers.now ↔
        DependsOn (events c.args.log.now) c.args.kind c.args.event.now c.args.a.now
    both = depends-carrying (events c.args.log.now) c.args.a.now c.args.kind c.args.event.now c.args.carriers.now
        c.requires
