-- What a run tells of how much its sources' loads test.
use Rattle.std.specs.Prelude.{Bool, IsSome, IsTrue, List, Option}
use Rattle.rv_event.specs.declared.memory_model.MemoryModel.{MemoryModel}
use Rattle.rv_trace.specs.Source.{Stream}
use Rattle.rv_replay.specs.Replays.{IsAllowed}
use Rattle.rv_replay.specs.Strengths.{IsStrength}
use Rattle.rv_replay.specs.declared.strength.Strength.{Strength}
use Rattle.rv_report.specs.declared.outcome.Outcome.{Outcome}
use Rattle.rv_run.specs.Completeness.{AllRead, InMerge}

-- it is so of a merge of all of their events
abbrev pub AreTested : MemoryModel → List (Option Stream) → Strength → Type 0
AreTested model streams s = AllRead streams (InMerge (λ log. IsStrength model log s))

-- it is told just where that is asked for and the outcome is allowed
abbrev pub IsToldWhere : {X : Type 0} → Bool → Outcome → Option X → Type 0
IsToldWhere asked o told = (IsTrue asked → IsAllowed o → IsSome told) × (IsSome told → IsTrue asked × IsAllowed o)
