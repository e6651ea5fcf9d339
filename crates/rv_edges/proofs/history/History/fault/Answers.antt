-- The first fault, and else that of too many dependencies.
use Rattle.rv_edges.proofs.Common.{◌∷◌, [], first_faults, deps_fault, lowest-append_some, happened}
use Rattle.rv_edges.proofs.history.History.fault.Goals as goal

pub returns-in-Some : goal.returns-in-Some
returns-in-Some c =
    lowest-append_some (first_faults (happened c.args.self.now.kept) c.args.event.now)
    (deps_fault c.args.event.now ∷ []) c.in-Some.fault c.in-Some.ensures
