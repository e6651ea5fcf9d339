use Rattle.std.specs.Prelude.{◌≡◌, IsFalse, true}
use Rattle.rv_run.specs.InTurn.{AreOver, AreTaking, streams_left}
use Rattle.rv_run.proofs.in_turn.take_all.Given as goal

-- the book goes on, and has what the traces gave
abbrev pub invariant-loop : goal.invariant-loop
invariant-loop g l = record {
  taking : AreTaking (streams_left l.fn.sources) l.book.log l.sources;
  going : IsFalse l.book.stopped;
  model : l.book.model ≡ l.fn.book.model;
}

-- and so it does between two turns, where the traces up to here have given all unless one said else
abbrev pub invariant-loop-source : goal.invariant-loop-source
invariant-loop-source g l = record {
  taking : AreTaking (streams_left l.fn.sources) l.book.log l.sources;
  going : IsFalse l.book.stopped;
  model : l.book.model ≡ l.fn.book.model;
  number : l.number ≡ l.source-index;
  over : l.is_over ≡ true → AreOver l.sources l.source-index;
}
