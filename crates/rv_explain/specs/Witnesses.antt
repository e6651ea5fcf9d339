-- What the reason of an edge stands on: a third event that it speaks of. Manual, section 14.1. Rules
-- 4 and 11 to 13 speak of an event between the two, the atomic reasons of the LR of a pair; the
-- other reasons speak of the two alone.
use Rattle.std.specs.Prelude.{ℕ, ◌≡◌, ◌<◌, List, ◌∷◌, ◌++◌, Some, IsTrue, All}
use Rattle.rv_event.specs.Log.{Between, writer}
use Rattle.rv_event.specs.Preserved.{IsDependentWrite}
use Rattle.rv_event.specs.Relations.{DependsOn, Paired, fence_orders}
use Rattle.rv_event.specs.declared.event.DepKind.TheVariants.{Addr, Ctrl}
use Rattle.rv_event.specs.declared.event.Event.{Event}
use Rattle.rv_event.specs.declared.event.Op.TheVariants.{Branch}
use Rattle.rv_event.specs.declared.reason.Reason.{Reason}
use Rattle.rv_event.specs.declared.reason.Reason.TheVariants.{Preserved, Coherence, ReadsFrom}
use Rattle.rv_event.specs.declared.reason.Reason.TheVariants.{FromRead, AtomicIn, AtomicOut}

-- 4: a fence between the two that orders a before b
pub record IsFence (a b m : Event) : Type 0 where
  pub between : Between a m b
  pub orders : IsTrue (fence_orders m.op a.op b.op)

-- 11: a branch between the two that depends on a
pub record IsDependentBranch (log : List Event) (a b m : Event) : Type 0 where
  pub between : Between a m b
  pub branch : m.op ≡ Branch
  pub depends : DependsOn log Ctrl m a

-- 13: an event between the two whose address depends on a
pub record IsDependentAddress (log : List Event) (a b m : Event) : Type 0 where
  pub between : Between a m b
  pub depends : DependsOn log Addr m a

-- the LR that is paired with the SC b, and returned what a wrote
pub record IsReservationIn (log : List Event) (a b m : Event) : Type 0 where
  pub paired : Paired log m b
  pub is_writer : writer log m.word m.read ≡ Some a

-- the LR that is paired with the SC a, of the word of b, and returned an older version than b wrote
pub record IsReservationOut (log : List Event) (a b m : Event) : Type 0 where
  pub paired : Paired log m a
  pub word : b.word ≡ m.word
  pub versions : m.read < b.wrote

-- what the rule with this number stands on, where it orders a before b
pub data IsRuleWitness (log : List Event) (a b m : Event) : ℕ → Type 0 where
  fence : IsFence a b m → IsRuleWitness log a b m 4
  dependent_branch : IsDependentBranch log a b m → IsRuleWitness log a b m 11
  dependent_write : IsDependentWrite log a b m → IsRuleWitness log a b m 12
  dependent_address : IsDependentAddress log a b m → IsRuleWitness log a b m 13

-- what the reason stands on, where it orders a before b
abbrev pub IsWitness : List Event → Reason → Event → Event → Event → Type 0
IsWitness log (Preserved k) a b m = IsRuleWitness log a b m k
IsWitness log Coherence a b m = ⊥
IsWitness log ReadsFrom a b m = ⊥
IsWitness log FromRead a b m = ⊥
IsWitness log AtomicIn a b m = IsReservationIn log a b m
IsWitness log AtomicOut a b m = IsReservationOut log a b m

-- m is the first event of the log for which P holds
pub record IsFirstOf (P : Event → Type 0) (log : List Event) (m : Event) : Type 0 where
  pub before : List Event
  pub after : List Event
  pub split : log ≡ before ++ m ∷ after
  pub holds : P m
  pub none_before : All (λ e. P e → ⊥) before
