-- What the definitions say of events to come, however many events a hart may have.
use Rattle.std.specs.Prelude.{◌+◌, ◌++◌, ◌<◌, ◌∷◌, ◌↔◌, ◌≡◌, ◌≢◌, ◌≤◌, [], All, Bool, Contains, IsTrue, List}
use Rattle.std.specs.Prelude.{length, ℕ}
use Rattle.std.specs.Option.{option_map}
use Rattle.rv_event.specs.Edges.{IsEdge, IsStale}
use Rattle.rv_event.specs.Faults.{fault_of, fault_within}
use Rattle.rv_event.specs.Log.{events, of_hart}
use Rattle.rv_event.specs.Orders.{Lawful}
use Rattle.rv_event.specs.WellFormed.{WellFormed, WellFormedWithin}
use Rattle.rv_event.specs.declared.event.Entry.{Entry}
use Rattle.rv_event.specs.declared.event.Event.{Event}
use Rattle.rv_event.specs.declared.event.Id.{Id}
use Rattle.rv_event.specs.declared.event.Op.TheVariants.{Carrier}
use Rattle.rv_event.specs.declared.memory_model.MemoryModel.{MemoryModel}
use Rattle.rv_event.specs.declared.reason.Reason.{Reason}
use Rattle.rv_cert.specs.Laws.{NoneStale}
use Rattle.rv_settle.specs.Cuts.{GoesForward, IsCut, IsOrderOfKept, IsParted, NoneStaleKept}
use Rattle.rv_settle.specs.Fitting.{FitsPast, in_full}
use Rattle.rv_settle.specs.Past.{ComesBeforePast}
use Rattle.rv_settle.specs.Settled.{AnyEdge, IsSettled}
use Rattle.rv_settle.specs.Windows.{AreBoth, IsBelow, IsKept, KeepsFew, KeepsPair, KeepsPairs, LeavesLastOpen}
use Rattle.rv_settle.specs.Windows.{both_firsts, renumbered, window}

-- where an edge leads from a new event of an active hart to a settled one, no order is lawful
abbrev pub NothingComesBeforeSettled : Type 0
NothingComesBeforeSettled =
    (limit : ℕ) (model : MemoryModel) (log : List Entry) (x : Entry) (active : List ℕ) (p : Event) (reason : Reason)
    (order : List Id) →
    WellFormedWithin limit (log ++ x ∷ []) → Contains active x.event.id.hart → IsSettled model (events log) active p →
    IsEdge model (events (log ++ x ∷ [])) x.event.id reason p.id →
    Lawful model (events (log ++ x ∷ [])) order → ⊥

-- what is settled stays so with one event more
abbrev pub SettledStays : Type 0
SettledStays =
    (limit : ℕ) (model : MemoryModel) (log : List Entry) (x : Entry) (active : List ℕ) (p : Event) →
    WellFormedWithin limit (log ++ x ∷ []) → IsSettled model (events log) active p →
    IsSettled model (events (log ++ x ∷ [])) active p

-- while some order is lawful, a cut stays one whatever the active harts do
abbrev pub CutStays : Type 0
CutStays =
    (limit : ℕ) (model : MemoryModel) (log : List Entry) (x : Entry) (active : List ℕ) (past : Event → Bool)
    (order : List Id) →
    WellFormedWithin limit (log ++ x ∷ []) → Contains active x.event.id.hart → IsCut model (events log) active past →
    Lawful model (events (log ++ x ∷ [])) order → IsCut model (events (log ++ x ∷ [])) active past

-- any order of the past and any order of the rest make a lawful order together, where no pair is
-- stale and each goes forward: so what is kept may be judged without the past
abbrev pub OrdersJoin : Type 0
OrdersJoin =
    (limit : ℕ) (model : MemoryModel) (log : List Entry) (active : List ℕ) (past : Event → Bool)
    (first rest : List Id) →
    WellFormedWithin limit log → NoneStale (events log) → IsCut model (events log) active past →
    IsParted (events log) past first rest →
    GoesForward model (events log) first → GoesForward model (events log) rest →
    Lawful model (events log) (first ++ rest)

-- an edge leads from a new event into the past exactly where the versions tell so
abbrev pub PastIsSeen : Type 0
PastIsSeen =
    (limit : ℕ) (model : MemoryModel) (log : List Entry) (x : Entry) (active : List ℕ) (past : Event → Bool) →
    WellFormedWithin limit (log ++ x ∷ []) → IsCut model (events log) active past →
    ((p : Event) × IsTrue (past p) × AnyEdge model (events (log ++ x ∷ [])) x.event.id p.id)
    ↔ ComesBeforePast (events (log ++ x ∷ [])) past x.event

-- Where some order was lawful before a new event of an active hart, some is with it exactly where no
-- pair that is kept is stale, the event does not come before the past, and the operations that are kept
-- have an order in which edges go forward. So what is kept decides, with the versions of the past.
abbrev pub KeptDecides : Type 0
KeptDecides =
    (limit : ℕ) (model : MemoryModel) (log : List Entry) (x : Entry) (active : List ℕ) (past : Event → Bool)
    (before : List Id) →
    WellFormedWithin limit (log ++ x ∷ []) → Contains active x.event.id.hart → IsCut model (events log) active past →
    Lawful model (events log) before →
    ((order : List Id) × Lawful model (events (log ++ x ∷ [])) order)
    ↔ (NoneStaleKept (events (log ++ x ∷ [])) past × (ComesBeforePast (events (log ++ x ∷ [])) past x.event → ⊥)
    × ((rest : List Id) × IsOrderOfKept (events (log ++ x ∷ [])) past rest
    × GoesForward model (events (log ++ x ∷ [])) rest))

-- Where a log and its window are well formed, no event is a carrier, and pairs are kept, the window has
-- just the edges of the log between events that are kept, for the same reasons.
abbrev pub WindowsHaveTheEdges : Type 0
WindowsHaveTheEdges =
    (limit : ℕ) (model : MemoryModel) (log : List Entry) (first : ℕ → ℕ) (reason : Reason) (a b : Event) →
    WellFormedWithin limit log → WellFormed (window first log) →
    All (λ m. m.op ≢ Carrier) (events log) → KeepsPairs first (events log) →
    Contains (events log) a → Contains (events log) b → IsKept first a → IsKept first b →
    IsEdge model (events log) a.id reason b.id
    ↔ IsEdge model (events (window first log)) (renumbered first a).id reason (renumbered first b).id

-- and just the stale pairs
abbrev pub WindowsHaveTheStalePairs : Type 0
WindowsHaveTheStalePairs =
    (limit : ℕ) (log : List Entry) (first : ℕ → ℕ) (a b : Event) →
    WellFormedWithin limit log → WellFormed (window first log) →
    Contains (events log) a → Contains (events log) b → IsKept first a → IsKept first b →
    IsStale (events log) a.id b.id
    ↔ IsStale (events (window first log)) (renumbered first a).id (renumbered first b).id

-- Where some order was lawful before a new event of an active hart, some is with it exactly where the
-- event does not come before the past, and some order is lawful for the window with it. So a log of any
-- length may be judged by its window, and the versions of its past. No event is a carrier, an SC that is
-- kept is paired with an LR that is kept, and no hart keeps more than 4,096 events.
abbrev pub WindowDecides : Type 0
WindowDecides =
    (limit : ℕ) (model : MemoryModel) (log : List Entry) (x : Entry) (active : List ℕ) (past : Event → Bool)
    (first : ℕ → ℕ) (before : List Id) →
    WellFormedWithin limit (log ++ x ∷ []) → All (λ m. m.op ≢ Carrier) (events (log ++ x ∷ [])) →
    KeepsPairs first (events (log ++ x ∷ [])) → KeepsFew first (events (log ++ x ∷ [])) →
    Contains active x.event.id.hart → IsCut model (events log) active past → IsBelow (events log) past first →
    IsKept first x.event → Lawful model (events log) before →
    ((order : List Id) × Lawful model (events (log ++ x ∷ [])) order)
    ↔ ((ComesBeforePast (events (log ++ x ∷ [])) past x.event → ⊥)
    × ((order : List Id) × Lawful model (events (window first (log ++ x ∷ []))) order))

-- the window of a well formed log is well formed, where an SC that is kept is paired with an LR that is
-- kept, and no hart keeps more than 4,096 events
abbrev pub WindowsAreWellFormed : Type 0
WindowsAreWellFormed =
    (limit : ℕ) (log : List Entry) (first : ℕ → ℕ) →
    WellFormedWithin limit log → KeepsPairs first (events log) → KeepsFew first (events log) →
    WellFormed (window first log)

-- The past of a cut, with the past of a cut of its window, is the past of a cut. So a run may forget
-- more by its window alone.
abbrev pub CutsCompose : Type 0
CutsCompose =
    (limit : ℕ) (model : MemoryModel) (log : List Entry) (active : List ℕ) (first : ℕ → ℕ)
    (past more both : Event → Bool) →
    WellFormedWithin limit log → All (λ m. m.op ≢ Carrier) (events log) →
    KeepsPairs first (events log) → KeepsFew first (events log) →
    IsCut model (events log) active past → IsBelow (events log) past first →
    IsCut model (events (window first log)) active more → AreBoth first (events log) past more both →
    IsCut model (events log) active both

-- Where some order is lawful for a log, some order is lawful for its window. No event is a carrier, an SC
-- that is kept is paired with an LR that is kept, and no hart keeps more than 4,096 events.
abbrev pub WindowsAreLawful : Type 0
WindowsAreLawful =
    (limit : ℕ) (model : MemoryModel) (log : List Entry) (first : ℕ → ℕ) (order : List Id) →
    WellFormedWithin limit log → All (λ m. m.op ≢ Carrier) (events log) →
    KeepsPairs first (events log) → KeepsFew first (events log) → Lawful model (events log) order →
    (rest : List Id) × Lawful model (events (window first log)) rest

-- the window of a window is the window of the log from where both begin
abbrev pub WindowsCompose : Type 0
WindowsCompose =
    (log : List Entry) (first next : ℕ → ℕ) →
    window next (window first log) ≡ window (both_firsts first next) log

-- Where what a well formed log forgets leaves a hart with a reservation only if it has each LR, SC and
-- failed SC of the hart, an SC that is kept is paired with an LR that is kept.
abbrev pub PairsAreKept : Type 0
PairsAreKept =
    (limit : ℕ) (log : List Entry) (first : ℕ → ℕ) →
    WellFormedWithin limit log → LeavesLastOpen first (events log) → KeepsPairs first (events log)

-- Where the log keeps the LR of each SC that it keeps, and its window does, both together do.
abbrev pub PairsStayKept : Type 0
PairsStayKept =
    (limit : ℕ) (log : List Entry) (first next : ℕ → ℕ) →
    WellFormedWithin limit log → KeepsFew first (events log) →
    KeepsPairs first (events log) → KeepsPairs next (events (window first log)) →
    KeepsPairs (both_firsts first next) (events log)

-- the past of a log with the past of its window is what stands below both numbers
abbrev pub PastsAdd : Type 0
PastsAdd =
    (log : List Entry) (first next : ℕ → ℕ) (past more both : Event → Bool) →
    IsBelow (events log) past first → IsBelow (events (window first log)) more next →
    AreBoth first (events log) past more both → IsBelow (events log) both (both_firsts first next)

-- The fault of an entry over a log is its fault over the window, where the event fits what was
-- forgotten, and its number is one of 4,096 of the window. An SC that is kept, or the entry's own, is
-- paired with an LR that is kept. What is forgotten is no more of the entry's hart than it has. No hart
-- keeps more than 4,096 events.
abbrev pub WindowsHaveTheFaults : Type 0
WindowsHaveTheFaults =
    (limit : ℕ) (log : List Entry) (x : Entry) (first : ℕ → ℕ) →
    WellFormedWithin limit log → KeepsPairs first (events log) → KeepsPair first (events log) x.event →
    KeepsFew first (events log) →
    first x.event.id.hart ≤ length (of_hart x.event.id.hart (events log)) → FitsPast limit log first x →
    x.event.id.seq < first x.event.id.hart + 4096 →
    fault_within limit log x
    ≡ option_map (in_full first x.event.id.hart)
    (fault_of (window first log) (record x { event = renumbered first x.event }))
