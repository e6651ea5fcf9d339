use Rattle.rv_event.proofs.Common.{events}
use Rattle.rv_event.proofs.Carrying.{write-carrying}
use Rattle.rv_event.proofs.rules.reads_dependent_write.Goals as goal

pub returns-then-is_load : goal.returns-then-is_load
returns-then-is_load c = (
  λ yes. record {
    load = c.is_load.ensures.0 c.if-is_load.true;
    through = (write-carrying (events c.args.log.now) c.args.a.now c.args.b.now c.carriers_of.result
        c.carriers_of.ensures).0 (c.has_dependent_write.ensures.0 yes);
  },
  λ h. c.has_dependent_write.ensures.1 ((write-carrying (events c.args.log.now) c.args.a.now c.args.b.now
      c.carriers_of.result c.carriers_of.ensures).1 h.through),
)
