use Rattle.std.proofs.Common.{◌≡◌, drop}
use Rattle.rv_chunk.specs.Chunks.{events_from}
use Rattle.rv_chunk.proofs.chunk.unpack.Given as goal

abbrev pub invariant-loop-k : goal.invariant-loop-k
invariant-loop-k l = l.events.items ≡ events_from l.k (drop 2 l.chunk-inside.words)
