use Rattle.std.proofs.Common.{arith}
use Rattle.rv_versions.proofs.Neighbours.{own_passed, foreign_found, none_foreign}
use Rattle.rv_versions.proofs.accesses.Accesses.foreign_lower_store.Goals as goal

pub stores-preserved : goal.stores-preserved
stores-preserved c = (
  omega (arith, c.stores.invariant.0, c.in-Some.ensures.below),
  λ log word of. own_passed log word c.args.self.now of c.args.version c.args.hart c.stores.bound
      (c.stores.invariant.1 log word of) c.in-Some.store c.in-Some.ensures.found c.if-store-hart.false,
)

pub returns-then-store-hart-clause-found : goal.returns-then-store-hart-clause-found
returns-then-store-hart-clause-found c log word of =
    foreign_found log word c.args.self.now of c.args.version c.args.hart c.stores.bound
    (c.stores.invariant.1 log word of) c.in-Some.store c.in-Some.ensures.found c.if-store-hart.true
    c.stores.invariant.0

pub returns-clause-found : goal.returns-clause-found
returns-clause-found c log word of =
    none_foreign log word c.args.self.now of c.args.version c.args.hart c.stores.bound
    (c.stores.invariant.1 log word of) c.in_default.ensures.found
