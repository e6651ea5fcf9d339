-- The links of a new event by the versions of words: all but those by rules.
use Rattle.std.specs.Prelude.{ℕ, ◌≢◌, ◌⊎◌, ◌++◌, List, [], ◌∷◌, Contains}
use Rattle.rv_event.specs.Operations.{IsMemory}
use Rattle.rv_event.specs.Edges.{IsEdge, HasReason}
use Rattle.rv_event.specs.declared.event.Event.{Event}
use Rattle.rv_event.specs.declared.memory_model.MemoryModel.{MemoryModel}
use Rattle.rv_event.specs.declared.reason.Link.{Link}
use Rattle.rv_event.specs.declared.reason.Reason.{Reason}
use Rattle.rv_event.specs.declared.reason.Reason.TheVariants.{Preserved}
use Rattle.rv_cover.specs.Carries.{IsSplit}
use Rattle.rv_cover.specs.Thinned.{Names, IsNearest}

-- the reason is no rule of preserved program order
abbrev pub IsOfVersions : Reason → Type 0
IsOfVersions reason = (k : ℕ) → reason ≢ Preserved k

-- Each link is an edge to another event, and no rule. Each edge of such a reason is linked, or
-- another event splits it.
pub record AreVersionLinks (model : MemoryModel) (log : List Event) (e : Event)
    (before after : List Link) : Type 0 where
  pub edges_before : (l : Link) → Contains before l → IsEdge model (log ++ e ∷ []) l.id l.reason e.id
  pub edges_after : (l : Link) → Contains after l → IsEdge model (log ++ e ∷ []) e.id l.reason l.id
  pub reasons_before : (l : Link) → Contains before l → IsOfVersions l.reason
  pub reasons_after : (l : Link) → Contains after l → IsOfVersions l.reason
  pub other_before : (l : Link) → Contains before l → l.id ≢ e.id
  pub other_after : (l : Link) → Contains after l → l.id ≢ e.id
  pub carried_before :
      (reason : Reason) (a : Event) → IsOfVersions reason → Contains log a → IsMemory a → IsMemory e →
      HasReason model (log ++ e ∷ []) reason a e → Names before a.id ⊎ IsSplit model log (log ++ e ∷ []) reason a e
  pub carried_after :
      (reason : Reason) (b : Event) → IsOfVersions reason → Contains log b → IsMemory e → IsMemory b →
      HasReason model (log ++ e ∷ []) reason e b → Names after b.id ⊎ IsSplit model log (log ++ e ∷ []) reason e b
  pub nearest : IsNearest log e before after
