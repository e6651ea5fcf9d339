use Rattle.std.proofs.Common.{List, take}
use Rattle.std.specs.HashMap.{get}
use Rattle.rv_log.specs.declared.record.Performed.{Performed}
use Rattle.rv_memory.specs.Stores.{same_issuer as same_key}
use Rattle.rv_values.specs.Index.{AreVersions}
use Rattle.rv_values.specs.Memory.{IsMemory}
use Rattle.rv_values.proofs.index.Index.new.Given as goal

abbrev pub invariant-issues : goal.invariant-issues
invariant-issues l = (performed : List Performed) → IsMemory l.memory.issues performed l.memory →
    AreVersions (take l.issued-index l.issued-items) performed (get same_key l.versions)
