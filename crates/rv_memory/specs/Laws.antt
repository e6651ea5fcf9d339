-- Laws over the definitions alone.
use Rattle.std.specs.Prelude.{ℕ, ◌≡◌, List}
use Rattle.rv_log.specs.declared.record.Performed.{Performed}
use Rattle.rv_memory.specs.Reads.{IsRead}
use Rattle.rv_memory.specs.Stores.{IsOrder}
use Rattle.rv_memory.specs.declared.reads.Load.{Load}

-- the order of stores leaves a load one version to return
abbrev pub LoadsReturnOneVersion : Type 0
LoadsReturnOneVersion =
    (log : List Performed) (load : Load) (version other : ℕ) → IsOrder log → IsRead log load version →
    IsRead log load other → version ≡ other
