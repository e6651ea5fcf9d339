use Rattle.rv_versions.proofs.Common.{◌≤◌, AllWithin}
use Rattle.rv_versions.proofs.by_version.ByVersion.start_back.Given as goal

-- those from the place on are of no lower version
abbrev pub invariant-loop-place : goal.invariant-loop-place
invariant-loop-place l = AllWithin (λ x. l.version ≤ x.version) l.self-inside.accesses.items l.place l.end
