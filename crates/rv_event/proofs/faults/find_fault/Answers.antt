use Rattle.rv_event.proofs.Common.{◌∷◌, [], events, first_faults, source_fault, deps_fault}
use Rattle.rv_event.proofs.Indexed.{lowest-append_some}
use Rattle.rv_event.proofs.faults.find_fault.Goals as goal

pub returns-in-Some : goal.returns-in-Some
returns-in-Some c = lowest-append_some (first_faults (events c.args.log.now) c.args.entry.now.event)
    (source_fault c.args.log.now c.args.entry.now ∷ deps_fault c.args.entry.now.event ∷ []) c.in-Some.fault
    c.in-Some.ensures
