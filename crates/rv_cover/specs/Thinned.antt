-- When the links of a new event are the nearest ones.
use Rattle.std.specs.Prelude.{ℕ, ◌≡◌, ◌≢◌, ◌<◌, ◌≤◌, List, [], ◌∷◌, ◌++◌, Contains}
use Rattle.rv_event.specs.Operations.{IsStore}
use Rattle.rv_event.specs.declared.event.Id.{Id}
use Rattle.rv_event.specs.declared.event.Event.{Event}
use Rattle.rv_event.specs.declared.memory_model.MemoryModel.{MemoryModel}
use Rattle.rv_event.specs.declared.reason.Link.{Link}
use Rattle.rv_event.specs.declared.reason.Reason.{Reason}
use Rattle.rv_event.specs.declared.reason.Reason.TheVariants.{Preserved, Coherence, FromRead}
use Rattle.rv_cover.specs.Paths.{AnyRule}

-- s is the known store of the highest version of the word below this one
pub record IsNextLower (log : List Event) (word version : ℕ) (s : Event) : Type 0 where
  pub of_log : Contains log s
  pub store : IsStore s
  pub same : s.word ≡ word
  pub below : s.wrote < version
  pub highest : (a : Event) → Contains log a → IsStore a → a.word ≡ word → a.wrote < version → a.wrote ≤ s.wrote

-- t is the known store of the lowest version of the word above this one
pub record IsNextHigher (log : List Event) (word version : ℕ) (t : Event) : Type 0 where
  pub of_log : Contains log t
  pub store : IsStore t
  pub same : t.word ≡ word
  pub above : version < t.wrote
  pub lowest : (a : Event) → Contains log a → IsStore a → a.word ≡ word → version < a.wrote → t.wrote ≤ a.wrote

-- a link of the list has this event at its end, with this reason
abbrev pub Lists : List Link → Event → Reason → Type 0
Lists links a reason = Contains links (record { id = a.id; reason = reason })

-- a link of the list names this event
abbrev pub Names : List Link → Id → Type 0
Names links i = (l : Link) × Contains links l × (l.id ≡ i)

-- no memory operation of the log stands between a and the new event in such a way that rules order
-- a before it, and it before the new event: so a's link is needed
abbrev pub IsUnsplit : MemoryModel → List Event → Event → List Link → Type 0
IsUnsplit model log e before =
    (k : ℕ) (a c : Event) → Contains log a → Contains log c → Lists before a (Preserved k) →
    AnyRule model (log ++ e ∷ []) a c → AnyRule model (log ++ e ∷ []) c e → ⊥

-- coherence links go to the nearest versions alone, from-read links over no other store's version
pub record IsNearest (log : List Event) (e : Event) (before after : List Link) : Type 0 where
  pub coherence_before : (s : Event) → Contains log s → Lists before s Coherence → IsNextLower log e.word e.wrote s
  pub coherence_after : (t : Event) → Contains log t → Lists after t Coherence → IsNextHigher log e.word e.wrote t
  pub from_read_after : (t : Event) → Contains log t → Lists after t FromRead → IsNextHigher log e.word e.read t
  -- the load itself left aside
  pub from_read_before :
      (a s : Event) → Contains log a → Contains log s → Lists before a FromRead → IsStore s → s.id ≢ a.id →
      s.word ≡ e.word → a.read < s.wrote → s.wrote < e.wrote → ⊥
