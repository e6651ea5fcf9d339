use Rattle.std.proofs.Common.{IsTrue, take}
use Rattle.std.specs.List.{Contains}
use Rattle.rv_event.specs.Log.{events}
use Rattle.rv_event.specs.Operations.{IsMemory}
use Rattle.rv_event.specs.declared.event.Event.{Event}
use Rattle.rv_cut.specs.Cuts.{AreLower, is_past}
use Rattle.rv_cut.specs.Marked.{HasPlaces, mark_of}
use Rattle.rv_cut.proofs.reach.keep_unmarked.Given as goal

abbrev pub invariant-loop-entry : goal.invariant-loop-entry
invariant-loop-entry l =
    ((p : Event) → Contains (events (take l.entry-index l.log)) p → IsMemory p → IsTrue (is_past l.cut p.id) →
    HasPlaces l.wanted (mark_of l.marks p.id))
    × AreLower l.fn.cut l.cut
