-- What a run tells of sources, where their readers tell their bytes.
use Rattle.std.specs.Prelude.{◌≡◌, ◌++◌, ◌<◌, ℕ, suc, List, [], ◌∷◌, length, slice_index_or, Option, Some}
use Rattle.std.specs.Prelude.{None, IsSome, IfSome, All, map, option_map, true, ⊤}
use Rattle.rv_event.specs.Merges.{SameSources}
use Rattle.rv_event.specs.WellFormed.{WellFormed}
use Rattle.rv_event.specs.declared.event.Event.{Event}
use Rattle.rv_event.specs.declared.event.Entry.{Entry}
use Rattle.rv_event.specs.declared.memory_model.MemoryModel.{MemoryModel}
use Rattle.rv_cert.specs.Refusals.{FaultyLog, IsFinal, IsMalformed, Refusal}
use Rattle.rv_book.specs.Chunked.{IsPrefix, entries_of, given_by}
use Rattle.rv_book.specs.Counts.{operations_of, waiting_of}
use Rattle.rv_coverage.specs.Coverages.{IsCoverage}
use Rattle.rv_coverage.specs.declared.coverage.Coverage.{Coverage}
use Rattle.rv_trace.specs.Faults.{is_of_text}
use Rattle.rv_trace.specs.Source.{Stream, bytes_say}
use Rattle.rv_trace.specs.declared.dialect.Dialect.{Dialect}
use Rattle.rv_trace.specs.Dialects.{plain}
use Rattle.rv_trace.specs.declared.fault.TraceFault.{TraceFault}
use Rattle.rv_report.specs.declared.outcome.Outcome.{Outcome}
use Rattle.rv_report.specs.declared.outcome.Outcome.TheVariants.{Allowed, Forbidden, Malformed}
use Rattle.rv_run.specs.Outcomes.{IfAllowed, IfForbidden, IfMalformed}
use Rattle.rv_replay.specs.Replays.{IsConsistent, IsReplayed, IsAllowed}
use Rattle.rv_run.specs.declared.fault.RunFault.{RunFault}
use Rattle.rv_run.specs.declared.fault.RunFault.TheVariants.{Trace, NoMemory, Lost, Settings}

-- these are all the events of the source
abbrev pub AreEventsOf : Option Stream → List Event → Type 0
AreEventsOf None events = ⊤
AreEventsOf (Some s) events = s.events ≡ events

-- the source ends whole, and not in a fault
abbrev pub EndsWhole : Option Stream → Type 0
EndsWhole None = ⊤
EndsWhole (Some s) = s.end ≡ None

-- the entries are those of the sources, one source after another
abbrev pub HasRead : ℕ → List (Option Stream) → List Entry → Type 0
HasRead source [] entries = entries ≡ []
HasRead source (s ∷ rest) entries =
    (events : List Event) × (more : List Entry) × (entries ≡ entries_of source events ++ more)
    × AreEventsOf s events × HasRead (suc source) rest more

-- one source after another they are a well formed log
abbrev pub AreWellFormed : List (Option Stream) → Type 0
AreWellFormed streams = (entries : List Entry) × HasRead 0 streams entries × WellFormed entries

-- the first of each source's events, and no others
pub record IsPartOf (streams : List (Option Stream)) (log : List Entry) : Type 0 where
  pub none_else : All (λ x. x.source < length streams) log
  pub first :
      (i : ℕ) → i < length streams → IfSome (slice_index_or streams i None) (λ s. IsPrefix (given_by i log) s.events)

-- what a run tells where it allows the sources: they end whole, and one after another they are a
-- well formed log that has a lawful order, with these counts
pub record AreAllowed (model : MemoryModel) (streams : List (Option Stream)) (events operations waiting : ℕ)
    : Type 0 where
  pub whole : All EndsWhole streams
  pub entries : List Entry
  pub read : HasRead 0 streams entries
  pub consistent : IsConsistent model entries
  pub events_is : events ≡ length entries
  pub operations_is : operations ≡ operations_of entries
  pub waiting_is : waiting ≡ waiting_of entries

-- where it forbids them: the evidence is a part of the sources and well formed, and no order is
-- lawful for any well formed log that continues it
pub record AreForbidden (model : MemoryModel) (streams : List (Option Stream)) (f : Refusal) : Type 0 where
  pub judged_by : f.model ≡ model
  pub part : IsPartOf streams f.evidence
  pub well_formed : WellFormed f.evidence
  pub final : IsFinal model f.evidence

-- where it calls them malformed: the evidence is a part of the sources, and its last entry has the
-- fault; so the sources, where their bytes are known, are not well formed
pub record AreMalformed (model : MemoryModel) (streams : List (Option Stream)) (m : FaultyLog) : Type 0 where
  pub judged_by : m.model ≡ model
  pub part : IsPartOf streams m.evidence
  pub malformed : IsMalformed m.evidence m.fault
  pub refuted : All IsSome streams → AreWellFormed streams → ⊥

-- what a run tells of what they have exercised: it is so of a merge of all of their events
pub record AreCovered (model : MemoryModel) (streams : List (Option Stream)) (c : Coverage) : Type 0 where
  pub entries : List Entry
  pub read : HasRead 0 streams entries
  pub log : List Entry
  pub merge : SameSources entries log
  pub coverage : IsCoverage model log c

-- what each reader says in a dialect, where it tells its bytes
abbrev pub streams_in : {R : Type 0} → Dialect → (R → Option (List ℕ)) → List R → List (Option Stream)
streams_in d remaining readers = map (λ r. option_map (bytes_say d) (remaining r)) readers

-- of the nine operations alone
abbrev pub streams_of : {R : Type 0} → (R → Option (List ℕ)) → List R → List (Option Stream)
streams_of remaining readers = streams_in plain remaining readers

-- an outcome is true of the sources
pub record IsTrueOf (model : MemoryModel) (streams : List (Option Stream)) (outcome : Outcome) : Type 0 where
  pub allowed : IfAllowed outcome (AreAllowed model streams)
  pub forbidden : IfForbidden outcome (AreForbidden model streams)
  pub malformed : IfMalformed outcome (AreMalformed model streams)

-- a fault of the source's text is the one that the source ends in
abbrev pub EndsIn : Option Stream → TraceFault → Type 0
EndsIn None f = ⊤
EndsIn (Some s) f = is_of_text f.kind ≡ true → s.end ≡ Some f

-- the fault is that of a source
abbrev pub IsFaultAmong : List (Option Stream) → RunFault → Type 0
IsFaultAmong streams (Trace source f) = (source < length streams) × EndsIn (slice_index_or streams source None) f
IsFaultAmong streams NoMemory = ⊤
IsFaultAmong streams Lost = ⊤
IsFaultAmong streams Settings = ⊤

abbrev pub IsRefused : Outcome → Type 0
IsRefused (Allowed events operations waiting) = ⊥
IsRefused (Forbidden f) = ⊤
IsRefused (Malformed m) = ⊤

-- runs over the same sources, whose bytes are known, agree: none is allowed where another is
-- refused
abbrev pub RunsAgree : Type 0
RunsAgree =
    (model : MemoryModel) (streams : List (Option Stream)) (one other : Outcome) → All IsSome streams →
    IsTrueOf model streams one → IsTrueOf model streams other → IsAllowed one → IsRefused other → ⊥

-- and so do a run over sources and a pass over their entries, in whatever order the sources are
-- merged, and also where a source ends in a fault
abbrev pub PassesAgree : Type 0
PassesAgree =
    (model : MemoryModel) (streams : List (Option Stream)) (entries merge : List Entry) (run pass : Outcome) →
    All IsSome streams → HasRead 0 streams entries → SameSources entries merge →
    IsTrueOf model streams run → IsReplayed model merge pass →
    (IsAllowed run → IsRefused pass → ⊥) × (IsRefused run → IsAllowed pass → ⊥)
