use Rattle.std.proofs.Common.{take}
use Rattle.rv_event.specs.Log.{events}
use Rattle.rv_explain.specs.Latest.{IsLatest}
use Rattle.rv_explain.proofs.latest.latest_exclusive.Given as goal

abbrev pub invariant-entries : goal.invariant-entries
invariant-entries l = IsLatest (events (take l.entry-index l.log)) l.sc l.latest
