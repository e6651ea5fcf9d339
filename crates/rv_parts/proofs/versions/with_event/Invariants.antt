use Rattle.std.proofs.Common.{◌≡◌, take}
use Rattle.rv_event.specs.Log.{events}
use Rattle.rv_parts.proofs.versions.with_event.Given as goal

abbrev pub invariant-loop-entry : goal.invariant-loop-entry
invariant-loop-entry l = events l.log.items ≡ events (take l.entry-index l.entries)
