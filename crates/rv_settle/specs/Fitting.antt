-- What a new event asks of what was forgotten, and how its faults read. These are this project's own.
use Rattle.std.specs.Prelude.{ℕ, ◌+◌, ◌<◌, ◌≡◌, ◌≢◌, ◌≤◌, Contains, IsFalse, List, length}
use Rattle.rv_event.specs.Faults.{is_bad_dependency}
use Rattle.rv_event.specs.Log.{events}
use Rattle.rv_event.specs.Operations.{IsStore}
use Rattle.rv_event.specs.declared.event.Dep.{Dep}
use Rattle.rv_event.specs.declared.event.Entry.{Entry}
use Rattle.rv_event.specs.declared.event.Event.{Event}
use Rattle.rv_event.specs.declared.fault.Fault.{Fault}
use Rattle.rv_event.specs.declared.fault.Fault.TheVariants.{Sequence, VersionTaken}
use Rattle.rv_settle.specs.Windows.{IsKept}

-- none of its dependencies on what was forgotten is bad
abbrev pub DependsWell : List Event → (ℕ → ℕ) → Event → Type 0
DependsWell log first e =
    (d : Dep) → Contains e.deps d → d.seq < first e.id.hart → IsFalse (is_bad_dependency log e d)

-- no store that was forgotten wrote its version
abbrev pub IsUntaken : List Event → (ℕ → ℕ) → Event → Type 0
IsUntaken log first e =
    (p : Event) → Contains log p → p.id.seq < first p.id.hart → IsStore p → IsStore e → p.word ≡ e.word →
    p.wrote ≢ e.wrote

-- its hart's events that were forgotten came from its source
abbrev pub HasOldSource : List Entry → (ℕ → ℕ) → Entry → Type 0
HasOldSource log first x =
    (y : Entry) → Contains log y → y.event.id.seq < first y.event.id.hart → y.event.id.hart ≡ x.event.id.hart →
    y.source ≡ x.source

-- The event's number is one that is kept, and below the limit. None of its dependencies on what was
-- forgotten is bad, no store that was forgotten wrote its version, and its hart's events that were
-- forgotten came from its source. It has at most 8 dependencies.
pub record FitsPast (limit : ℕ) (log : List Entry) (first : ℕ → ℕ) (x : Entry) : Type 0 where
  pub kept : IsKept first x.event
  pub below : x.event.id.seq < limit
  pub depends : DependsWell (events log) first x.event
  pub free : IsUntaken (events log) first x.event
  pub source : HasOldSource log first x
  pub few : length x.event.deps ≤ 8

-- a fault over the window, as it reads over the log: its numbers are not counted from the first event
-- that is kept
abbrev pub in_full : (ℕ → ℕ) → ℕ → Fault → Fault
in_full first hart (Sequence n) = Sequence (n + first hart)
in_full first hart (VersionTaken i) = VersionTaken (record { hart = i.hart; seq = i.seq + first i.hart })
in_full first hart f = f
