-- Pairs, fences and dependencies between the events of a hart. Manual, section 14.1: "Memory Model
-- Primitives" (pairs), "Preserved Program Order" (what a FENCE orders), "Syntactic Dependencies".
-- Dependencies are those that the trace lists: the producer computes them from registers.
use Rattle.std.specs.Prelude.{Bool, false, ◌||◌, ◌&&◌, ◌≡◌, ◌<◌, ◌⊎◌, List, IsTrue, IsFalse, All, Any, Contains}
use Rattle.rv_event.specs.Operations.{is_load, is_store, is_memory, is_exclusive}
use Rattle.rv_event.specs.Log.{Earlier, Between}
use Rattle.rv_event.specs.declared.event.Event.{Event}
use Rattle.rv_event.specs.declared.event.DepKind.{DepKind}
use Rattle.rv_event.specs.declared.event.DepKind.TheVariants.{Ctrl, DataOf}
use Rattle.rv_event.specs.declared.event.Op.{Op}
use Rattle.rv_event.specs.declared.event.Op.TheVariants.{Lr, Sc, Fence, FenceTso, Branch, Carrier}
use Rattle.rv_event.specs.declared.event.Set.{Set}
use Rattle.rv_event.specs.declared.event.Set.TheVariants.{R, W, Rw}

-- An LR and a later SC of one hart are paired where no LR, SC or failed SC stands between them.
-- Words don't matter.
pub record Paired (log : List Event) (lr sc : Event) : Type 0 where
  pub is_lr : lr.op ≡ Lr
  pub is_sc : sc.op ≡ Sc
  pub earlier : Earlier lr sc
  pub none_between : All (λ m. Between lr m sc → IsFalse (is_exclusive m.op)) log

-- R takes loads and W stores; an AMO is in a set that has either
abbrev pub in_set : Set → Op → Bool
in_set R op = is_load op
in_set W op = is_store op
in_set Rw op = is_memory op

-- Whether a fence orders an operation before it before one after it. FENCE.TSO orders earlier loads
-- before all later operations, and earlier stores before later stores.
abbrev pub fence_orders : Op → Op → Op → Bool
fence_orders (Fence pred succ) a b = in_set pred a && in_set succ b
fence_orders FenceTso a b = (is_load a && is_memory b) || (is_store a && is_store b)
fence_orders _ a b = false

-- a fence between them orders a before b
abbrev pub Fenced : List Event → Event → Event → Type 0
Fenced log a b = Any (λ f. Between a f b × IsTrue (fence_orders f.op a.op b.op)) log

-- e lists a dependency of this kind on the earlier event a of its hart
abbrev pub Lists : DepKind → Event → Event → Type 0
Lists kind e a = Earlier a e × Contains e.deps (record { kind = kind; seq = a.id.seq })

-- a carrier is one of the first 4,096 events of its hart; it stands for what it lists
abbrev pub IsCarrier : Event → Type 0
IsCarrier c = (c.op ≡ Carrier) × (c.id.seq < 4096)

-- a is behind carrier c: c lists a, or a carrier that a is behind
pub data Behind (log : List Event) : Event → Event → Type 0 where
  listed : {c a : Event} → IsCarrier c → Lists DataOf c a → Behind log c a
  through :
      {c m a : Event} → IsCarrier c → Contains log m → Lists DataOf c m → Behind log m a → Behind log c a

-- e has a dependency of this kind on a: it lists a, or a carrier that a is behind
abbrev pub DependsOn : List Event → DepKind → Event → Event → Type 0
DependsOn log kind e a = Lists kind e a ⊎ Any (λ m. Lists kind e m × Behind log m a) log

-- b has a control dependency on a: a branch between them depends on a
abbrev pub ControlDependsOn : List Event → Event → Event → Type 0
ControlDependsOn log b a = Any (λ m. Between a m b × (m.op ≡ Branch) × DependsOn log Ctrl m a) log
