use Rattle.rv_versions.proofs.Common.{◌≢◌, AllWithin}
use Rattle.rv_versions.proofs.by_version.ByVersion.place_of.Given as goal

-- the access is not among those from the place on
abbrev pub invariant-loop-place : goal.invariant-loop-place
invariant-loop-place l = AllWithin (λ x. x ≢ l.access) l.self-inside.accesses.items l.place l.end
