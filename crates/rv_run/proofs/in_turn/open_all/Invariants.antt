use Rattle.std.specs.Prelude.{◌≡◌, ◌++◌, ◌+◌, None, All, length, vec_items, vec_len}
use Rattle.std.specs.Vec.Iter.{into_iter_items, into_iter_len}
use Rattle.rv_run.specs.InTurn.{streams_left}
use Rattle.rv_run.specs.Sources.{streams_in}
use Rattle.rv_run.proofs.in_turn.open_all.Given as goal

-- the traces so far say what the readers so far do
abbrev pub invariant-loop-reader : goal.invariant-loop-reader
invariant-loop-reader g l = record {
  streams :
      streams_left (vec_items l.sources) ++ streams_in l.dialect g.R.Read.remaining (into_iter_items l.reader-iterator)
      ≡ streams_in l.dialect g.R.Read.remaining (vec_items l.fn.readers);
  good : All (λ t. t.fault ≡ None) (vec_items l.sources);
  number : l.number ≡ vec_len l.sources;
  count : into_iter_len l.reader-iterator ≡ length (into_iter_items l.reader-iterator);
  rest : vec_len l.sources + into_iter_len l.reader-iterator ≡ vec_len l.fn.readers;
}
