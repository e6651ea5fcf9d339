use Rattle.std.proofs.Common.{◌≡◌, take, length}
use Rattle.std.specs.Prelude.{All}
use Rattle.std.specs.List.{flat_map}
use Rattle.rv_chunk.specs.Chunks.{event_words, two, IsTyped}
use Rattle.rv_chunk.proofs.ChunkFill.{filled}
use Rattle.rv_chunk.proofs.chunk.text_of.Given as goal

abbrev pub invariant-loop-k : goal.invariant-loop-k
invariant-loop-k l = record {
  words : l.words ≡ filled (two l.source l.number) (length l.events) (flat_map event_words (take l.k l.events)) l.k;
  typed : All IsTyped (take l.k l.events);
}
