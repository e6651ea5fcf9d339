use Rattle.std.proofs.Common.{◌≡◌, drop, length}
use Rattle.rv_chunk.specs.Chunks.{AreSmall}
use Rattle.rv_trace.specs.Dependencies.{each_dependency, parts}
use Rattle.rv_trace.proofs.Parts.{with_front}
use Rattle.rv_trace.proofs.dependency.each_of.Given as goal

abbrev pub invariant-loop-part : goal.invariant-loop-part
invariant-loop-part l = record {
  said : with_front l.deps (each_dependency l.columns (drop (length l.yielded) (parts l.text))) ≡
      each_dependency l.columns (parts l.text);
  count : length l.deps ≡ length l.yielded;
  small : AreSmall l.deps;
}
