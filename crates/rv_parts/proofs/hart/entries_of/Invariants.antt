use Rattle.std.proofs.Common.{◌≡◌, take}
use Rattle.rv_event.specs.Log.{events}
use Rattle.rv_parts.proofs.hart.entries_of.Given as goal

abbrev pub invariant-loop-number : goal.invariant-loop-number
invariant-loop-number g l = events l.entries.items ≡ take l.number l.past
