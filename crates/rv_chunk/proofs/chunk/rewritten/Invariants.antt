use Rattle.std.proofs.Common.{◌≡◌, drop}
use Rattle.std.specs.List.{flat_map}
use Rattle.rv_chunk.specs.Chunks.{event_words, events_from, two, source_of, number_of, count_of}
use Rattle.rv_chunk.proofs.ChunkFill.{filled}
use Rattle.rv_chunk.proofs.chunk.rewritten.Given as goal

abbrev pub invariant-loop-k : goal.invariant-loop-k
invariant-loop-k l = l.again ≡ filled (two (source_of l.words) (number_of l.words)) (count_of l.words)
    (flat_map event_words (events_from l.k (drop 2 l.words))) l.k
