-- Logs in which nothing is wrong, and logs that go on. These are this project's own.
use Rattle.std.specs.Prelude.{ℕ, ◌==◌, ◌≡◌, ◌++◌, List, ◌∷◌, filter, None}
use Rattle.rv_event.specs.Faults.{event_fault, fault_within}
use Rattle.rv_event.specs.declared.event.Event.{Event}
use Rattle.rv_event.specs.declared.event.Entry.{Entry}

-- no entry has a fault over the entries before it, where a hart may have so many events
abbrev pub WellFormedWithin : ℕ → List Entry → Type 0
WellFormedWithin limit log =
    (before after : List Entry) (x : Entry) → log ≡ before ++ x ∷ after → fault_within limit before x ≡ None

-- no entry has a fault, where a hart may have 4,096 events
abbrev pub WellFormed : List Entry → Type 0
WellFormed log = WellFormedWithin 4096 log

-- no event has a fault over the events before it
abbrev pub WellFormedEvents : List Event → Type 0
WellFormedEvents log =
    (before after : List Event) (e : Event) → log ≡ before ++ e ∷ after → event_fault before e ≡ None

-- the entries of a hart, in order
abbrev pub entries_of : ℕ → List Entry → List Entry
entries_of hart log = filter (λ x. hart == x.event.id.hart) log

-- each hart's entries of the old log are the first of that hart's entries in the new one
abbrev pub Continues : List Entry → List Entry → Type 0
Continues old new = (hart : ℕ) → (rest : List Entry) × (entries_of hart new ≡ entries_of hart old ++ rest)
