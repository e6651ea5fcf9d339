-- When an outcome agrees with what the feeders have read.
use Rattle.std.specs.Prelude.{◌≡◌, ◌≢◌, ◌⊎◌, ◌<◌, ℕ, List, [], All, Option, Some, None, IsSome, length, take}
use Rattle.std.specs.Prelude.{slice_index_or, ⊤}
use Rattle.rv_event.specs.WellFormed.{WellFormed}
use Rattle.rv_event.specs.declared.event.Entry.{Entry}
use Rattle.rv_event.specs.declared.memory_model.MemoryModel.{MemoryModel}
use Rattle.rv_cert.specs.Refusals.{IsFinal, IsMalformed}
use Rattle.rv_book.specs.Chunked.{given_by}
use Rattle.rv_book.specs.Counts.{operations_of, waiting_of}
use Rattle.rv_coverage.specs.Coverages.{IsCoverage}
use Rattle.rv_coverage.specs.declared.coverage.Coverage.{Coverage}
use Rattle.rv_trace.specs.declared.fault.TraceFault.{TraceFault}
use Rattle.rv_report.specs.declared.outcome.Outcome.{Outcome}
use Rattle.rv_report.specs.declared.outcome.Outcome.TheVariants.{Allowed, Forbidden, Malformed}
use Rattle.rv_run.specs.Completeness.{IsFirstWait}
use Rattle.rv_replay.specs.Replays.{IsConsistent}
use Rattle.rv_replay.specs.Strengths.{IsStrength}
use Rattle.rv_replay.specs.declared.strength.Strength.{Strength}
use Rattle.rv_run.specs.declared.fault.RunFault.{RunFault}
use Rattle.rv_run.specs.declared.fault.RunFault.TheVariants.{Trace, NoMemory, Lost, Settings}
use Rattle.rv_run.specs.declared.feeding.Fed.{Fed}
use Rattle.rv_run.specs.declared.feeding.FeedEnd.TheVariants.{Whole, Fault}
use Rattle.rv_run.specs.declared.missing.Missing.{Missing}
use Rattle.rv_run.specs.declared.missing.Missing.TheVariants.{EndRecord, Rows, Events, Store}

-- the log's events of the source are the first that were read
pub record IsBegunIn (log : List Entry) (source : ℕ) (fed : Fed) : Type 0 where
  pub count : ℕ
  pub first : given_by source log ≡ take count fed.events

-- the source was read to its end, and the log's events of it are all that were read
pub record IsWholeIn (log : List Entry) (source : ℕ) (fed : Fed) : Type 0 where
  pub ended : fed.end ≡ Whole
  pub all : given_by source log ≡ fed.events

-- each source's entries are the first that were read of it, or all of them; and there are no others
abbrev pub IsBegun : List Entry → List Fed → Type 0
IsBegun log fed =
    All (λ x. x.source < length fed) log
    × ((i : ℕ) (f : Fed) → i < length fed → IsBegunIn log i (slice_index_or fed i f))

abbrev pub IsWhole : List Entry → List Fed → Type 0
IsWhole log fed =
    All (λ x. x.source < length fed) log
    × ((i : ℕ) (f : Fed) → i < length fed → IsWholeIn log i (slice_index_or fed i f))

abbrev pub AgreesWith : MemoryModel → List Fed → Outcome → Type 0
AgreesWith model fed (Allowed events operations waiting) =
    (log : List Entry) × IsConsistent model log × IsWhole log fed
    × (events ≡ length log) × (operations ≡ operations_of log) × (waiting ≡ waiting_of log)
AgreesWith model fed (Forbidden f) =
    (f.model ≡ model) × IsBegun f.evidence fed × WellFormed f.evidence × IsFinal model f.evidence
AgreesWith model fed (Malformed m) = (m.model ≡ model) × IsBegun m.evidence fed × IsMalformed m.evidence m.fault

-- this is what a log of all that was read has exercised
abbrev pub IsCoveredBy : MemoryModel → List Fed → Coverage → Type 0
IsCoveredBy model fed c = (log : List Entry) × IsWhole log fed × IsCoverage model log c

-- and so much do its loads test
abbrev pub IsTestedBy : MemoryModel → List Fed → Strength → Type 0
IsTestedBy model fed s = (log : List Entry) × IsWhole log fed × IsStrength model log s

-- ---- completeness
-- the end record of a source counts the events that were read, or this is what it lacks
abbrev pub IsCountedFed : Fed → Type 0
IsCountedFed fed = fed.said ≡ Some (length fed.events)

abbrev pub IsMiscountedFed : ℕ → ℕ → Fed → Type 0
IsMiscountedFed rows said fed = (rows ≢ said) × (length fed.events ≡ rows) × (fed.said ≡ Some said)

-- of a source with so many rows, whose end record, if it has one, says so much
abbrev pub IsEndLacking : ℕ → ℕ → Option ℕ → Option Missing → Type 0
IsEndLacking source rows said None = said ≡ Some rows
IsEndLacking source rows said (Some (EndRecord i)) = (i ≡ source) × (said ≡ None)
IsEndLacking source rows said (Some (Rows i n other)) =
    (i ≡ source) × (n ≢ other) × (rows ≡ n) × (said ≡ Some other)
IsEndLacking source rows said (Some Events) = ⊥
IsEndLacking source rows said (Some (Store w)) = ⊥

abbrev pub IsFedLacking : ℕ → Fed → Option Missing → Type 0
IsFedLacking source fed m = IsEndLacking source (length fed.events) fed.said m

-- the end records of the first so many sources do; those of all, or this is the first that does not
abbrev pub AreCountedFed : List Fed → ℕ → Type 0
AreCountedFed fed n = (i : ℕ) (f : Fed) → i < n → IsCountedFed (slice_index_or fed i f)

abbrev pub AreEndsLacking : List Fed → Option Missing → Type 0
AreEndsLacking fed None = AreCountedFed fed (length fed)
AreEndsLacking fed (Some m) =
    (source : ℕ) × AreCountedFed fed source × (source < length fed)
    × ((f : Fed) → IsFedLacking source (slice_index_or fed source f) (Some m))

-- the log has events of which none waits, or this is what it lacks
abbrev pub IsLogLacking : List Entry → Option Missing → Type 0
IsLogLacking log None = (0 < length log) × (waiting_of log ≡ 0)
IsLogLacking log (Some Events) = log ≡ []
IsLogLacking log (Some (Store w)) = IsFirstWait log w
IsLogLacking log (Some (EndRecord source)) = ⊥
IsLogLacking log (Some (Rows source rows said)) = ⊥

-- nothing is lacking, or this is the first that is
abbrev pub IsLacking : List Fed → List Entry → Option Missing → Type 0
IsLacking fed log m =
    (IsSome m × AreEndsLacking fed m) ⊎ (AreCountedFed fed (length fed) × IsLogLacking log m)

-- the same of a log of all that was read
abbrev pub LacksBy : List Fed → Option Missing → Type 0
LacksBy fed m = (log : List Entry) × IsWhole log fed × IsLacking fed log m

-- ---- faults
-- the feeder of a source ended by this fault, and that of no lower source by one
pub record EndedBy (fed : List Fed) (source : ℕ) (fault : TraceFault) : Type 0 where
  pub low : source < length fed
  pub end_is : (f : Fed) → (slice_index_or fed source f).end ≡ Fault fault
  pub lowest :
      (i : ℕ) (f : Fed) (other : TraceFault) → i < source → (slice_index_or fed i f).end ≡ Fault other → ⊥

-- a fault of a source is the one by which its feeder ended
abbrev pub IsFaultIn : List Fed → RunFault → Type 0
IsFaultIn fed (Trace source fault) = EndedBy fed source fault
IsFaultIn fed NoMemory = ⊤
IsFaultIn fed Lost = ⊤
IsFaultIn fed Settings = ⊥
