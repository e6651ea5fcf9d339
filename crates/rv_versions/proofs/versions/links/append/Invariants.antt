use Rattle.rv_versions.proofs.Common.{◌≢◌, Some, take, IsExtended}
use Rattle.rv_versions.proofs.Linking.{Passed}
use Rattle.rv_versions.proofs.versions.links.append.Given as goal

-- the accesses so far are linked, but those left aside
abbrev pub invariant-loop-access : goal.invariant-loop-access
invariant-loop-access l = IsExtended l.fn.before.items l.links.items l.reason (Passed (λ x. l.aside ≢ Some x.hart)
    l.reason (take l.access-index l.found))
