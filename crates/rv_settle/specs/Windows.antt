-- Windows: the entries that a run keeps, each hart's numbers counted from its first one. These are
-- this project's own.
use Rattle.std.specs.Prelude.{ℕ, ◌<◌, ◌≤◌, ◌+◌, ◌-◌, ◌↔◌, ◌⊎◌, Bool, Contains, IsTrue, List, filter}
use Rattle.std.specs.Prelude.{length, map, nat_le, nat_lt}
use Rattle.rv_event.specs.Faults.{is_reserved}
use Rattle.rv_event.specs.Log.{of_hart}
use Rattle.rv_event.specs.Operations.{is_exclusive}
use Rattle.rv_event.specs.Relations.{Paired}
use Rattle.rv_event.specs.declared.event.Dep.{Dep}
use Rattle.rv_event.specs.declared.event.Entry.{Entry}
use Rattle.rv_event.specs.declared.event.Event.{Event}

-- the dependencies on events from number n on, counted from there
abbrev pub deps_from : ℕ → List Dep → List Dep
deps_from n deps =
    map (λ (d : Dep). record { kind = d.kind; seq = d.seq - n }) (filter (λ (d : Dep). nat_le n d.seq) deps)

-- the event, where the numbers of its hart are counted from n
abbrev pub counted_from : ℕ → Event → Event
counted_from n e =
    record e { id = record { hart = e.id.hart; seq = e.id.seq - n }; deps = deps_from n e.deps }

-- the event, where each hart's numbers are counted from its first event that is kept
abbrev pub renumbered : (ℕ → ℕ) → Event → Event
renumbered first e = counted_from (first e.id.hart) e

-- the event is kept: its number is not below the first of its hart
abbrev pub IsKept : (ℕ → ℕ) → Event → Type 0
IsKept first e = first e.id.hart ≤ e.id.seq

-- the entries that are kept, renumbered
abbrev pub window : (ℕ → ℕ) → List Entry → List Entry
window first log =
    map (λ (x : Entry). record x { event = renumbered first x.event })
    (filter (λ (x : Entry). nat_le (first x.event.id.hart) x.event.id.seq) log)

-- an LR of the log that is paired with the event is kept
abbrev pub KeepsPair : (ℕ → ℕ) → List Event → Event → Type 0
KeepsPair first log sc = (lr : Event) → Contains log lr → Paired log lr sc → IsKept first lr

-- an SC that is kept is paired with an LR that is kept
abbrev pub KeepsPairs : (ℕ → ℕ) → List Event → Type 0
KeepsPairs first log = (sc : Event) → Contains log sc → IsKept first sc → KeepsPair first log sc

-- the past is what stands below each hart's first number that is kept
abbrev pub IsBelow : List Event → (Event → Bool) → (ℕ → ℕ) → Type 0
IsBelow log past first = (a : Event) → Contains log a → IsTrue (past a) ↔ a.id.seq < first a.id.hart

-- what is forgotten leaves the hart with a reservation
abbrev pub LeavesReserved : (ℕ → ℕ) → List Event → ℕ → Type 0
LeavesReserved first log hart =
    IsTrue (is_reserved (filter (λ (e : Event). nat_lt e.id.seq (first e.id.hart)) log) hart)

-- where it leaves a hart with a reservation, it has each LR, SC and failed SC of the hart
abbrev pub LeavesLastOpen : (ℕ → ℕ) → List Event → Type 0
LeavesLastOpen first log =
    (e : Event) → Contains log e → LeavesReserved first log e.id.hart → IsTrue (is_exclusive e.op) →
    e.id.seq < first e.id.hart

-- where each hart's numbers are counted from the first one of a window's window
abbrev pub both_firsts : (ℕ → ℕ) → (ℕ → ℕ) → ℕ → ℕ
both_firsts first next hart = first hart + next hart

-- no hart keeps more than 4,096 events
abbrev pub KeepsFew : (ℕ → ℕ) → List Event → Type 0
KeepsFew first log = (hart : ℕ) → length (of_hart hart log) ≤ first hart + 4096

-- the events of the past, and those of the window's past
abbrev pub AreBoth : (ℕ → ℕ) → List Event → (Event → Bool) → (Event → Bool) → (Event → Bool) → Type 0
AreBoth first log past more both =
    (a : Event) → IsTrue (both a)
    ↔ (IsTrue (past a) ⊎ (Contains log a × IsKept first a × IsTrue (more (renumbered first a))))
