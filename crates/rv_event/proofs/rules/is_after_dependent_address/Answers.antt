use Rattle.rv_event.proofs.Common.{events}
use Rattle.rv_event.proofs.Carrying.{address-carrying}
use Rattle.rv_event.proofs.rules.is_after_dependent_address.Goals as goal

pub returns-then-is_store : goal.returns-then-is_store
returns-then-is_store c = (
  λ yes. record {
    store = c.is_store.ensures.0 c.if-is_store.true;
    through = (address-carrying (events c.args.log.now) c.args.a.now c.args.b.now c.carriers_of.result
        c.carriers_of.ensures).0 (c.has_dependent_address.ensures.0 yes);
  },
  λ h. c.has_dependent_address.ensures.1 ((address-carrying (events c.args.log.now) c.args.a.now c.args.b.now
      c.carriers_of.result c.carriers_of.ensures).1 h.through),
)
