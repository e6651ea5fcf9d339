use Rattle.std.proofs.Common.{subst}
use Rattle.std.proofs.lemmas.Bool.{eqb-true, eqb-false}
use Rattle.rv_memory.specs.Stores.{IsLastOf}
use Rattle.rv_memory.proofs.Orders.{free-by, written-by}
use Rattle.rv_memory.proofs.stores.Stores.is_written_at.Goals as goal

pub returns-in-Some-clause-written : goal.returns-in-Some-clause-written
returns-in-Some-clause-written c = λ log are at.
    written-by log c.args.address c.args.time c.in-Some.last
    (subst (IsLastOf log c.args.address) c.in-Some.is (c.last_of.ensures log are))
    (eqb-true c.in-Some.last.time c.args.time at)

pub returns-in-Some-clause-free : goal.returns-in-Some-clause-free
returns-in-Some-clause-free c = λ log are apart later.
    free-by log c.args.self.now c.args.address c.args.time c.in-Some.last are
    (subst (IsLastOf log c.args.address) c.in-Some.is (c.last_of.ensures log are))
    (eqb-false c.in-Some.last.time c.args.time apart) later

pub returns-in-None-clause-free : goal.returns-in-None-clause-free
returns-in-None-clause-free c = λ log are same later written.
    subst (IsLastOf log c.args.address) c.in-None.is (c.last_of.ensures log are)
    written.store written.of_log written.word
