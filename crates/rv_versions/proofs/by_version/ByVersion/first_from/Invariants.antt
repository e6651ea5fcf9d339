use Rattle.rv_versions.proofs.Common.{◌≡◌, Some, AllWithin}
use Rattle.rv_versions.proofs.by_version.ByVersion.first_from.Given as goal

-- those up to the place are left aside
abbrev pub invariant-loop-place : goal.invariant-loop-place
invariant-loop-place l = AllWithin (λ x. l.aside ≡ Some x.hart) l.self-inside.accesses.items l.initial.place l.place
