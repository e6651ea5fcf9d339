-- Which edges of a new event may be left out: those that an older event splits.
use Rattle.std.specs.Prelude.{◌⊎◌, List, [], ◌∷◌, ◌++◌, Contains}
use Rattle.rv_event.specs.Operations.{IsMemory}
use Rattle.rv_event.specs.Edges.{HasReason, IsCoherence, IsFromRead, IsAtomicOut}
use Rattle.rv_event.specs.declared.event.Id.{Id}
use Rattle.rv_event.specs.declared.event.Event.{Event}
use Rattle.rv_event.specs.declared.memory_model.MemoryModel.{MemoryModel}
use Rattle.rv_event.specs.declared.reason.Reason.{Reason}
use Rattle.rv_event.specs.declared.reason.Reason.TheVariants.{Preserved, Coherence, ReadsFrom, FromRead}
use Rattle.rv_event.specs.declared.reason.Reason.TheVariants.{AtomicIn, AtomicOut}
use Rattle.rv_cover.specs.Paths.{AnyRule, Reaches}

-- c splits an edge from a to b of the new log: one half is an edge between old events, the other
-- one of the same kind, nearer to the new event
abbrev pub Splits : MemoryModel → List Event → List Event → Reason → Event → Event → Event → Type 0
Splits model log new (Preserved k) a c b = Reaches model log a c × AnyRule model new c b
Splits model log new Coherence a c b = IsCoherence a c × IsCoherence c b
Splits model log new FromRead a c b = IsFromRead a c × IsCoherence c b
Splits model log new ReadsFrom a c b = ⊥
Splits model log new AtomicIn a c b = ⊥
Splits model log new AtomicOut a c b = IsAtomicOut new a c × IsCoherence c b

-- an old event splits the edge
pub record IsSplit (model : MemoryModel) (log new : List Event) (reason : Reason) (a b : Event) : Type 0 where
  pub c : Event
  pub of_log : Contains log c
  pub splits : Splits model log new reason a c b

-- each edge into the new event e and out of it is listed, or an old event splits it
pub record Carries (model : MemoryModel) (log : List Event) (e : Event) (Listed : Id → Id → Type 0) : Type 0 where
  pub into :
      (reason : Reason) (a : Event) → Contains log a → IsMemory a → IsMemory e →
      HasReason model (log ++ e ∷ []) reason a e → Listed a.id e.id ⊎ IsSplit model log (log ++ e ∷ []) reason a e
  pub out :
      (reason : Reason) (b : Event) → Contains log b → IsMemory e → IsMemory b →
      HasReason model (log ++ e ∷ []) reason e b → Listed e.id b.id ⊎ IsSplit model log (log ++ e ∷ []) reason e b
