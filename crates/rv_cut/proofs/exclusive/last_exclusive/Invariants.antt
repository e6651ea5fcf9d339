use Rattle.rv_cut.specs.Exclusives.{IsLastExclusive}
use Rattle.rv_event.specs.Log.{events}
use Rattle.std.proofs.Common.{take}
use Rattle.std.specs.Option.{option_copied}
use Rattle.rv_cut.proofs.exclusive.last_exclusive.Given as goal

abbrev pub invariant-loop-entry : goal.invariant-loop-entry
invariant-loop-entry l = IsLastExclusive (events (take l.entry-index l.log)) l.hart (option_copied l.last)
