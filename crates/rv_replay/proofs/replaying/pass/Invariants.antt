use Rattle.rv_replay.proofs.Passes.{IsReplaying}
use Rattle.rv_replay.proofs.replaying.pass.Given as goal

abbrev pub invariant-loop-entry : goal.invariant-loop-entry
invariant-loop-entry l = IsReplaying l.initial.book.model l.entries l.entry-index l.book
