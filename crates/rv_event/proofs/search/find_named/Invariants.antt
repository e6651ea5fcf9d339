use Rattle.rv_event.proofs.Common.{◌≡◌, None, take, events, named}
use Rattle.rv_event.proofs.search.find_named.Given as goal

abbrev pub invariant-loop-entry : goal.invariant-loop-entry
invariant-loop-entry l = named (events (take l.entry-index l.log)) l.id ≡ None
