use Rattle.rv_event.proofs.Common.{◌∷◌, [], events, first_faults, deps_fault}
use Rattle.rv_event.proofs.Indexed.{lowest-append_some}
use Rattle.rv_event.proofs.faults.find_event_fault.Goals as goal

pub returns-in-Some : goal.returns-in-Some
returns-in-Some c = lowest-append_some (first_faults (events c.args.log.now) c.args.event.now)
    (deps_fault c.args.event.now ∷ []) c.in-Some.fault c.in-Some.ensures
