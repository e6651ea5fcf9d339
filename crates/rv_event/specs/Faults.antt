-- What is wrong with an entry over the entries before it. The faults are this project's own. How many
-- events a hart may have is a parameter; this project's logs have at most 4,096 of a hart.
use Rattle.std.specs.Prelude.{ℕ, Bool, true, false, not, ◌&&◌, ◌||◌, ◌==◌, ◌++◌, nat_lt, nat_le, List, []}
use Rattle.std.specs.Prelude.{◌∷◌, reverse, find, length, Option, None, Some, option_map, unwrap_or}
use Rattle.std.specs.Prelude.{if◌then◌else◌}
use Rattle.std.specs.List.{list_any}
use Rattle.rv_event.specs.Operations.{is_store, is_exclusive}
use Rattle.rv_event.specs.Log.{events, named, of_hart, writer}
use Rattle.rv_event.specs.declared.event.Dep.{Dep}
use Rattle.rv_event.specs.declared.event.DepKind.{DepKind}
use Rattle.rv_event.specs.declared.event.DepKind.TheVariants.{Addr, DataOf, Ctrl}
use Rattle.rv_event.specs.declared.event.Event.{Event}
use Rattle.rv_event.specs.declared.event.Entry.{Entry}
use Rattle.rv_event.specs.declared.event.Op.{Op}
use Rattle.rv_event.specs.declared.event.Op.TheVariants.{Load, Store, Lr, Sc, ScFailed, Amo, Branch, Carrier}
use Rattle.rv_event.specs.declared.fault.Fault.{Fault}
use Rattle.rv_event.specs.declared.fault.Fault.TheVariants.{Hart, Sequence, Dependency, VersionZero}
use Rattle.rv_event.specs.declared.fault.Fault.TheVariants.{VersionTaken, NoReservation, Full, OtherSource}
use Rattle.rv_event.specs.declared.fault.Fault.TheVariants.{TooManyDeps}

-- the fault, where the test passes
abbrev pub fault_if : Bool → Fault → Option Fault
fault_if test fault = if test then Some fault else None

-- how many events of its hart stand before it
abbrev pub expected : List Event → Event → ℕ
expected log e = length (of_hart e.id.hart log)

-- what another event may depend on: what returns a value, or stands for such
abbrev pub can_be_named : Op → Bool
can_be_named Load = true
can_be_named Lr = true
can_be_named Sc = true
can_be_named ScFailed = true
can_be_named Amo = true
can_be_named Carrier = true
can_be_named _ = false

-- the kinds of dependency that an operation may have
abbrev pub admits : Op → DepKind → Bool
admits Load Addr = true
admits Lr Addr = true
admits Store Addr = true
admits Sc Addr = true
admits ScFailed Addr = true
admits Amo Addr = true
admits Store DataOf = true
admits Sc DataOf = true
admits ScFailed DataOf = true
admits Amo DataOf = true
admits Carrier DataOf = true
admits Branch Ctrl = true
admits _ _ = false

-- whether the id names an event that returns no value
abbrev pub names_no_value : List Event → ℕ → ℕ → Bool
names_no_value log hart seq =
    unwrap_or (option_map (λ m. not (can_be_named m.op)) (named log (record { hart = hart; seq = seq }))) false

-- a dependency not on an earlier event, on one that returns no value, or of a kind that the
-- operation does not have
abbrev pub is_bad_dependency : List Event → Event → Dep → Bool
is_bad_dependency log e d =
    not (nat_lt d.seq e.id.seq) || names_no_value log e.id.hart d.seq || not (admits e.op d.kind)

-- the hart's last LR, SC or failed SC
abbrev pub last_exclusive : List Event → ℕ → Option Event
last_exclusive log hart = find (λ m. is_exclusive m.op) (reverse (of_hart hart log))

abbrev pub is_lr : Op → Bool
is_lr Lr = true
is_lr _ = false

abbrev pub is_sc : Op → Bool
is_sc Sc = true
is_sc _ = false

-- the hart's last LR, SC or failed SC is an LR
abbrev pub is_reserved : List Event → ℕ → Bool
is_reserved log hart = unwrap_or (option_map (λ m. is_lr m.op) (last_exclusive log hart)) false

-- The nine faults, in their order. Each is one, or none.

-- 1: the hart is above 15
abbrev pub hart_fault : Event → Option Fault
hart_fault e = fault_if (nat_lt 15 e.id.hart) Hart

-- 2: the number isn't that of the hart's events so far
abbrev pub sequence_fault : List Event → Event → Option Fault
sequence_fault log e = fault_if (not (e.id.seq == expected log e)) (Sequence (expected log e))

-- 3: one of its dependencies is bad
abbrev pub dependency_fault : List Event → Event → Option Fault
dependency_fault log e = fault_if (list_any (is_bad_dependency log e) e.deps) Dependency

-- 4: a store writes version 0
abbrev pub zero_fault : Event → Option Fault
zero_fault e = fault_if (is_store e.op && (e.wrote == 0)) VersionZero

-- 5: a store writes a version that has a writer
abbrev pub taken_fault : List Event → Event → Option Fault
taken_fault log e =
    if is_store e.op then option_map (λ w. VersionTaken w.id) (writer log e.word e.wrote) else None

-- 6: an SC without a reservation
abbrev pub reservation_fault : List Event → Event → Option Fault
reservation_fault log e = fault_if (is_sc e.op && not (is_reserved log e.id.hart)) NoReservation

-- 7: the hart has as many events as it may have
abbrev pub full_fault : ℕ → List Event → Event → Option Fault
full_fault limit log e = fault_if (nat_le limit (expected log e)) Full

-- 8: an event of its hart came from another source
abbrev pub source_fault : List Entry → Entry → Option Fault
source_fault log x =
    fault_if (list_any (λ y. (y.event.id.hart == x.event.id.hart) && not (y.source == x.source)) log) OtherSource

-- 9: more than 8 dependencies
abbrev pub deps_fault : Event → Option Fault
deps_fault e = fault_if (nat_lt 8 (length e.deps)) TooManyDeps

-- the faults that look at events alone, up to a full hart
abbrev pub first_faults_within : ℕ → List Event → Event → List (Option Fault)
first_faults_within limit log e =
    hart_fault e
    ∷ sequence_fault log e
    ∷ dependency_fault log e
    ∷ zero_fault e
    ∷ taken_fault log e
    ∷ reservation_fault log e
    ∷ full_fault limit log e
    ∷ []

-- those where a hart may have 4,096 events
abbrev pub first_faults : List Event → Event → List (Option Fault)
first_faults log e = first_faults_within 4096 log e

-- the first that holds
abbrev pub lowest : List (Option Fault) → Option Fault
lowest [] = None
lowest (Some f ∷ rest) = Some f
lowest (None ∷ rest) = lowest rest

-- the fault of an event over events, where no sources are known
abbrev pub event_fault : List Event → Event → Option Fault
event_fault log e = lowest (first_faults log e ++ deps_fault e ∷ [])

-- the fault of an entry over a log, where a hart may have so many events
abbrev pub fault_within : ℕ → List Entry → Entry → Option Fault
fault_within limit log x =
    lowest (first_faults_within limit (events log) x.event ++ source_fault log x ∷ deps_fault x.event ∷ [])

-- the same, where it may have 4,096
abbrev pub fault_of : List Entry → Entry → Option Fault
fault_of log x = fault_within 4096 log x
