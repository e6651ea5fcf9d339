-- What a history has of a new event in its look-ups.
use Rattle.std.specs.Prelude.{List}
use Rattle.rv_event.specs.declared.event.Event.{Event}
use Rattle.rv_event.specs.declared.memory_model.MemoryModel.{MemoryModel}
use Rattle.rv_hart.specs.Harts.{IsReturned}
use Rattle.rv_versions.specs.Reserved.{IsReserved}
use Rattle.rv_edges.specs.Indexes.{hart_from}
use Rattle.rv_edges.specs.declared.history.Known.{Known}

-- the own store that it returns, and what its LR returned, are those of the log
abbrev pub IsKnown : MemoryModel → List Event → Event → Known → Type 0
IsKnown model log e known =
    IsReturned (hart_from model log e.id.hart) e known.returned × IsReserved log e known.reserved
