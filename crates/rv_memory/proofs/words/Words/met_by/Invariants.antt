use Rattle.std.proofs.Common.{◌+◌, ◌≤◌, Contains}
use Rattle.rv_memory.specs.Words.{Meets}
use Rattle.rv_memory.specs.declared.words.Word.{Word}
use Rattle.rv_memory.proofs.words.Words.met_by.Given as goal

abbrev pub invariant-offsets : goal.invariant-offsets
invariant-offsets l = (x : Word) → Contains l.self-inside.all.items x → Meets x l.word → l.block + l.offset ≤ x.address
