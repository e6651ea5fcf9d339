use Rattle.rv_run.specs.InTurn.{HasTaken}
use Rattle.rv_run.proofs.in_turn.take_turn.Given as goal

-- the book has what the trace gave so far
abbrev pub invariant-loop : goal.invariant-loop
invariant-loop g l = HasTaken l.number l.initial.source l.source l.initial.book l.book
