-- What marks say of the operations of a log. These are this project's own.
use Rattle.std.specs.Global.{Vec}
use Rattle.std.specs.Int.{bit_at}
use Rattle.std.specs.Prelude.{ℕ, ◌*◌, ◌+◌, ◌≡◌, ◌<◌, ◌⊎◌, Bool, Contains, IsTrue, List, Option, None, Some}
use Rattle.std.specs.Prelude.{nat_lt, slice_get, slice_index_or}
use Rattle.rv_event.specs.Operations.{IsMemory}
use Rattle.rv_event.specs.declared.event.Dep.{Dep}
use Rattle.rv_event.specs.declared.event.DepKind.TheVariants.{Addr, Ctrl}
use Rattle.rv_event.specs.declared.event.Event.{Event}
use Rattle.rv_event.specs.declared.event.Id.{Id}
use Rattle.rv_event.specs.declared.event.Op.{Op}
use Rattle.rv_event.specs.declared.event.Op.TheVariants.{Branch, Load, Store}
use Rattle.rv_event.specs.declared.memory_model.MemoryModel.{MemoryModel}
use Rattle.rv_edges.specs.declared.ties.Tie.{Tie}
use Rattle.rv_settle.specs.Bars.{IsBeforeLoads, IsBeforeStores}
use Rattle.rv_settle.specs.Settled.{AnyEdge, LeadsTo}
use Rattle.rv_cut.specs.declared.bars.Later.{Later}
use Rattle.rv_cut.specs.declared.bars.Later.TheVariants.{Loads, Stores}

-- the mark of a number, and of an id: a number in binary
abbrev pub mark_in : Option (Vec ℕ) → ℕ → ℕ
mark_in (Some row) seq = slice_index_or row.items seq 0
mark_in None seq = 0

abbrev pub mark_of : List (Vec ℕ) → Id → ℕ
mark_of rows i = mark_in (slice_get rows i.hart) i.seq

-- whether a mark has a place, and the place of what is asked of a hart: two for each
abbrev pub has_place : ℕ → ℕ → Bool
has_place mark k = nat_lt 0 (bit_at mark k)

abbrev pub place_for : ℕ → Later → ℕ
place_for hart Loads = 2 * hart
place_for hart Stores = 2 * hart + 1

-- an operation of this kind
abbrev pub op_of : Later → Op
op_of Loads = Load
op_of Stores = Store

-- m stands before each later load of its hart, or each later store
abbrev pub StandsBefore : Later → MemoryModel → List Event → Event → Type 0
StandsBefore Loads model log m = IsBeforeLoads model log m
StandsBefore Stores model log m = IsBeforeStores model log m

-- the dependency puts its event before each later store of the hart: that of an address, or of a branch
abbrev pub PutsBefore : Event → Dep → Type 0
PutsBefore e d = (d.seq < e.id.seq) × ((d.kind ≡ Addr) ⊎ ((d.kind ≡ Ctrl) × (e.op ≡ Branch)))

-- Where an operation's mark has a place, edges lead from it to an operation of that hart that stands
-- before what is asked there.
abbrev pub AreMarked : MemoryModel → List Event → List (Vec ℕ) → Type 0
AreMarked model log rows =
    (hart : ℕ) (later : Later) (p : Event) → Contains log p → IsMemory p →
    IsTrue (has_place (mark_of rows p.id) (place_for hart later)) →
    LeadsTo model log hart (StandsBefore later model log) p

-- the mark has all places that are wanted
abbrev pub HasPlaces : ℕ → ℕ → Type 0
HasPlaces wanted mark = (k : ℕ) → IsTrue (has_place wanted k) → IsTrue (has_place mark k)

-- the mark has both places of each of the harts
abbrev pub HasAll : List ℕ → ℕ → Type 0
HasAll active mark =
    (hart : ℕ) (later : Later) → Contains active hart → IsTrue (has_place mark (place_for hart later))

-- each of them is an edge of the log
abbrev pub AreEdges : MemoryModel → List Event → List Tie → Type 0
AreEdges model log ties = (t : Tie) → Contains ties t → AnyEdge model log t.from t.to
