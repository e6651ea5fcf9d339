use Rattle.std.proofs.Common.{◌≡◌, ◌++◌, drop}
use Rattle.rv_chunk.specs.Chunks.{deps_of}
use Rattle.rv_chunk.proofs.codes.read_deps.Given as goal

abbrev pub invariant-loop-half : goal.invariant-loop-half
invariant-loop-half l = deps_of l.halves ≡ l.deps ++ deps_of (drop l.half-index l.halves)
