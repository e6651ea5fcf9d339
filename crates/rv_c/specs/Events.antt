-- An event as C writes it: what its numbers say.
use Rattle.std.specs.Prelude.{ℕ, ◌≡◌, ◌==◌, Option, Some, None, if◌then◌else◌, map, not, take}
use Rattle.rv_event.specs.declared.event.Dep.{Dep}
use Rattle.rv_event.specs.declared.event.DepKind.{DepKind}
use Rattle.rv_event.specs.declared.event.DepKind.TheVariants.{Addr, DataOf, Ctrl}
use Rattle.rv_event.specs.declared.event.Entry.{Entry}
use Rattle.rv_event.specs.declared.event.Op.{Op}
use Rattle.rv_event.specs.declared.event.Op.TheVariants.{Load, Store, Lr, Sc, ScFailed, Amo, Fence, FenceTso}
use Rattle.rv_event.specs.declared.event.Op.TheVariants.{Branch, Carrier}
use Rattle.rv_event.specs.declared.event.Set.{Set}
use Rattle.rv_event.specs.declared.event.Set.TheVariants.{R, W, Rw}
use Rattle.rv_c.specs.declared.event.RvmonDep.{RvmonDep}
use Rattle.rv_c.specs.declared.event.RvmonEvent.{RvmonEvent}

-- one side of a fence: 1 loads, 2 stores, 3 both
abbrev pub set_of : ℕ → Option Set
set_of n =
    if n == 1 then Some R
    else if n == 2 then Some W
    else if n == 3 then Some Rw
    else None

abbrev pub fence_of : Option Set → Option Set → Option Op
fence_of (Some pred) (Some succ) = Some (Fence pred succ)
fence_of (Some pred) None = None
fence_of None succ = None

-- the operation of a code
abbrev pub op_by : ℕ → Option Op → Option Op
op_by n fence =
    if n == 0 then Some Load
    else if n == 1 then Some Store
    else if n == 2 then Some Lr
    else if n == 3 then Some Sc
    else if n == 4 then Some ScFailed
    else if n == 5 then Some Amo
    else if n == 6 then fence
    else if n == 7 then Some FenceTso
    else if n == 8 then Some Branch
    else if n == 9 then Some Carrier
    else None

abbrev pub op_of : RvmonEvent → Option Op
op_of e = op_by e.op (fence_of (set_of e.pred) (set_of e.succ))

-- a dependency: 0 address, 1 data, 2 control
abbrev pub kind_of : ℕ → Option DepKind
kind_of n =
    if n == 0 then Some Addr
    else if n == 1 then Some DataOf
    else if n == 2 then Some Ctrl
    else None

abbrev pub with_kind : ℕ → Option DepKind → Option Dep
with_kind seq (Some kind) = Some (record { kind = kind; seq = seq })
with_kind seq None = None

abbrev pub dep_of : RvmonDep → Option Dep
dep_of d = with_kind d.seq (kind_of d.kind)

-- the entry is what the numbers say, field by field; so many of the dependencies count
pub record IsWritten (e : RvmonEvent) (x : Entry) : Type 0 where
  pub source : x.source ≡ e.source
  pub hart : x.event.id.hart ≡ e.hart
  pub seq : x.event.id.seq ≡ e.seq
  pub op : op_of e ≡ Some x.event.op
  pub word : x.event.word ≡ e.word
  pub read : x.event.read ≡ e.read
  pub wrote : x.event.wrote ≡ e.wrote
  pub acquire : x.event.acquire ≡ not (e.acquire == 0)
  pub release : x.event.release ≡ not (e.release == 0)
  pub deps : map dep_of (take e.count e.deps) ≡ map Some x.event.deps
