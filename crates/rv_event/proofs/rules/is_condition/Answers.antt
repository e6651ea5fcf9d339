-- Each arm tests what its rule says.
use Rattle.std.proofs.Common.{rules}
use Rattle.rv_event.specs.Log.{events}
use Rattle.rv_event.proofs.Conditions.{overlapping_store_at, different_reads_at, reads_atomic_write_at, fenced_at}
use Rattle.rv_event.proofs.Conditions.{after_acquire_at, before_release_at, both_rcsc_at, paired_at, address_at}
use Rattle.rv_event.proofs.Conditions.{data_of_at, control_at, reads_dependent_write_at}
use Rattle.rv_event.proofs.Conditions.{after_dependent_address_at}
use Rattle.rv_event.proofs.rules.is_condition.Goals as goal

pub returns-in-1 : goal.returns-in-1
returns-in-1 c = search (overlapping_store_at, rules)

pub returns-in-2 : goal.returns-in-2
returns-in-2 c = search (different_reads_at, rules)

pub returns-in-3 : goal.returns-in-3
returns-in-3 c = search (reads_atomic_write_at, rules)

pub returns-in-4 : goal.returns-in-4
returns-in-4 c = search (fenced_at, rules)

pub returns-in-5 : goal.returns-in-5
returns-in-5 c = search (after_acquire_at, rules)

pub returns-in-6 : goal.returns-in-6
returns-in-6 c = search (before_release_at, rules)

pub returns-then-is_rcsc : goal.returns-then-is_rcsc
returns-then-is_rcsc c = both_rcsc_at c.args.model (events c.args.log.now) c.args.a.now c.args.b.now c.args.k
    c.is_rcsc-then-is_rcsc.result (search rules) (search rules)

pub returns-in-8 : goal.returns-in-8
returns-in-8 c = search (paired_at, rules)

pub returns-in-9 : goal.returns-in-9
returns-in-9 c = search (address_at, rules)

pub returns-in-10 : goal.returns-in-10
returns-in-10 c = search (data_of_at, rules)

pub returns-then-is_store : goal.returns-then-is_store
returns-then-is_store c = control_at c.args.model (events c.args.log.now) c.args.a.now c.args.b.now c.args.k
    c.control_depends_on.result (search rules) (search rules)

pub returns-in-12 : goal.returns-in-12
returns-in-12 c = search (reads_dependent_write_at, rules)

pub returns-in-13 : goal.returns-in-13
returns-in-13 c = search (after_dependent_address_at, rules)
