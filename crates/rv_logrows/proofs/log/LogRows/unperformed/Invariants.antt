use Rattle.std.proofs.Common.{ℕ, ◌<◌, List, Contains, get_or}
use Rattle.rv_log.specs.declared.record.Performed.{Performed}
use Rattle.rv_memory.specs.Stores.{AreStores, HasIssuer}
use Rattle.rv_values.specs.declared.issues.Issued.{Issued}
use Rattle.rv_logrows.proofs.log.LogRows.unperformed.Given as goal

abbrev pub invariant-issues : goal.invariant-issues
invariant-issues l = (performed : List Performed) → AreStores performed l.self.memory.stores → (k : ℕ) (d : Issued) →
    k < l.issued-index → (p : Performed) × Contains performed p ×
    HasIssuer (get_or l.issued-items k d).hart (get_or l.issued-items k d).order p
