-- When links that leave edges out still cover all.
use Rattle.std.specs.Prelude.{◌≡◌, ◌⊎◌, List, [], ◌∷◌, ◌++◌, None, Contains}
use Rattle.rv_event.specs.Faults.{event_fault}
use Rattle.rv_event.specs.WellFormed.{WellFormedEvents}
use Rattle.rv_event.specs.declared.event.Id.{Id}
use Rattle.rv_event.specs.declared.event.Event.{Event}
use Rattle.rv_event.specs.declared.memory_model.MemoryModel.{MemoryModel}
use Rattle.rv_cover.specs.Paths.{Covers}
use Rattle.rv_cover.specs.Carries.{Carries}

-- kept or listed
abbrev pub Either : (Id → Id → Type 0) → (Id → Id → Type 0) → Id → Id → Type 0
Either Kept Listed i j = Kept i j ⊎ Listed i j

-- a link of the list leads from the one to the other
abbrev pub LinkedBy : List (Id × Id) → Id → Id → Type 0
LinkedBy links i j = Contains links (i, j)

-- where kept links cover the old log, and listed ones carry the new event's edges, both together
-- cover the new log
abbrev pub CarriedLinksCover : Type 0
CarriedLinksCover =
    (model : MemoryModel) (log : List Event) (e : Event) (kept listed : List (Id × Id)) →
    WellFormedEvents log → event_fault log e ≡ None →
    Covers model log (LinkedBy kept) → Carries model log e (LinkedBy listed) →
    Covers model (log ++ e ∷ []) (Either (LinkedBy kept) (LinkedBy listed))
