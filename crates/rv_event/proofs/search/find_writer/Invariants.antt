use Rattle.rv_event.proofs.Common.{◌≡◌, None, take, find, events, did_write}
use Rattle.rv_event.proofs.search.find_writer.Given as goal

abbrev pub invariant-loop-entry : goal.invariant-loop-entry
invariant-loop-entry l = find (did_write l.word l.version) (events (take l.entry-index l.log)) ≡ None
