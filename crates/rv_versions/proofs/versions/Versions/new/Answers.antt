use Rattle.std.proofs.Common.{rules}
use Rattle.rv_versions.proofs.Indexing.{indexes-nil}
use Rattle.rv_versions.proofs.versions.Versions.new.Goals as goal

pub invariant_of-result : goal.invariant_of-result
invariant_of-result c = search (indexes-nil, rules)
