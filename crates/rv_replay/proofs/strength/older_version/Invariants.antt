use Rattle.std.proofs.Common.{◌≡◌, take}
use Rattle.rv_replay.specs.Strengths.{older_version}
use Rattle.rv_replay.proofs.strength.older_version.Given as goal

-- that of the entries so far
abbrev pub invariant-loop-entry : goal.invariant-loop-entry
invariant-loop-entry l = l.older ≡ older_version (take l.entry-index l.log) l.word l.version
