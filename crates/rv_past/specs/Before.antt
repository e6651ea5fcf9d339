-- How a new event comes before events that were forgotten: the versions tell. These are this project's
-- own.
use Rattle.std.specs.Prelude.{ℕ, ◌≡◌, ◌≢◌, ◌<◌, Contains, List, Option, Some}
use Rattle.rv_event.specs.Operations.{IsLoad, IsStore}
use Rattle.rv_event.specs.declared.event.Event.{Event}
use Rattle.rv_event.specs.declared.reason.Reason.{Reason}
use Rattle.rv_event.specs.declared.reason.Reason.TheVariants.{AtomicIn, AtomicOut, Coherence, FromRead}
use Rattle.rv_event.specs.declared.reason.Reason.TheVariants.{Preserved, ReadsFrom}
use Rattle.rv_past.specs.declared.edge.PastEdge.{PastEdge}

-- e loads or stores below a version of its word that one of them wrote; or it stores the version that
-- one of them returned; or it is an SC, paired with this LR, and one of them is another hart's store of
-- the LR's word above what that returned
pub data ComesBefore (gone : List Event) (lr : Option Event) (e : Event) : Type 0 where
  loads_below :
      (p : Event) → Contains gone p → IsStore p → IsLoad e → p.word ≡ e.word → e.read < p.wrote →
      ComesBefore gone lr e
  stores_below :
      (p : Event) → Contains gone p → IsStore p → IsStore e → e.word ≡ p.word → e.wrote < p.wrote →
      ComesBefore gone lr e
  stores_what_was_returned :
      (p : Event) → Contains gone p → IsLoad p → IsStore e → p.word ≡ e.word → p.read ≡ e.wrote →
      ComesBefore gone lr e
  stores_too_late :
      (r p : Event) → lr ≡ Some r → Contains gone p → IsStore p → p.word ≡ r.word → p.id.hart ≢ e.id.hart →
      r.read < p.wrote → ComesBefore gone lr e

-- e, where it is a store, writes a version above 0 that none of them wrote
pub record IsFree (gone : List Event) (e : Event) : Type 0 where
  pub positive : IsStore e → 0 < e.wrote
  pub free : (p : Event) → Contains gone p → IsStore p → IsStore e → p.word ≡ e.word → p.wrote ≢ e.wrote

-- an edge leads for this reason from e, paired with this LR where it is an SC, to the forgotten event p
abbrev pub LeadsBy : Option Event → Event → Reason → Event → Type 0
LeadsBy lr e FromRead p = IsStore p × IsLoad e × (p.word ≡ e.word) × (e.read < p.wrote)
LeadsBy lr e Coherence p = IsStore p × IsStore e × (e.word ≡ p.word) × (e.wrote < p.wrote)
LeadsBy lr e ReadsFrom p = IsLoad p × IsStore e × (p.word ≡ e.word) × (p.read ≡ e.wrote)
LeadsBy lr e AtomicOut p =
    (r : Event) × (lr ≡ Some r) × IsStore p × (p.word ≡ r.word) × (p.id.hart ≢ e.id.hart) × (r.read < p.wrote)
LeadsBy lr e AtomicIn p = ⊥
LeadsBy lr e (Preserved k) p = ⊥

-- the version of p that the reason is about
abbrev pub version_by : Reason → Event → ℕ
version_by ReadsFrom p = p.read
version_by FromRead p = p.wrote
version_by Coherence p = p.wrote
version_by AtomicOut p = p.wrote
version_by AtomicIn p = p.wrote
version_by (Preserved k) p = p.wrote

-- so it is with one of the events, which has the edge's word and version
pub record IsEdgeTo (gone : List Event) (lr : Option Event) (e : Event) (edge : PastEdge) : Type 0 where
  pub past : Event
  pub of_gone : Contains gone past
  pub why : LeadsBy lr e edge.reason past
  pub word : past.word ≡ edge.word
  pub version : version_by edge.reason past ≡ edge.version
