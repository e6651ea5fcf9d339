-- What witnesses and edges say of one another.
use Rattle.std.specs.Prelude.{⊤, ◌≡◌, ◌⊎◌, List, Any}
use Rattle.rv_event.specs.Edges.{HasReason}
use Rattle.rv_event.specs.declared.event.Event.{Event}
use Rattle.rv_event.specs.declared.memory_model.MemoryModel.{MemoryModel}
use Rattle.rv_event.specs.declared.reason.Reason.{Reason}
use Rattle.rv_event.specs.declared.reason.Reason.TheVariants.{Preserved, Coherence, ReadsFrom, FromRead}
use Rattle.rv_event.specs.declared.reason.Reason.TheVariants.{AtomicIn, AtomicOut}
use Rattle.rv_explain.specs.Witnesses.{IsWitness}

-- the reasons that speak of a third event
abbrev pub SpeaksOfThird : Reason → Type 0
SpeaksOfThird (Preserved k) = (k ≡ 4) ⊎ ((k ≡ 11) ⊎ ((k ≡ 12) ⊎ (k ≡ 13)))
SpeaksOfThird Coherence = ⊥
SpeaksOfThird ReadsFrom = ⊥
SpeaksOfThird FromRead = ⊥
SpeaksOfThird AtomicIn = ⊤
SpeaksOfThird AtomicOut = ⊤

-- where such a reason holds of two events, it stands on one of the log
abbrev pub ReasonsStandOnEvents : Type 0
ReasonsStandOnEvents =
    (model : MemoryModel) (log : List Event) (reason : Reason) (a b : Event) → HasReason model log reason a b →
    SpeaksOfThird reason → Any (IsWitness log reason a b) log
