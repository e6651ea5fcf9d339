-- By what events are told apart: the operation, its annotation, the sets of a fence.
use Rattle.std.specs.Prelude.{ℕ, Bool, true, false, not, ◌&&◌, List, [], ◌∷◌, codes}
use Rattle.rv_event.specs.Rows.{set_text}
use Rattle.rv_event.specs.Texts.{◌⋯◌}
use Rattle.rv_event.specs.declared.event.Event.{Event}
use Rattle.rv_event.specs.declared.event.Op.{Op}
use Rattle.rv_event.specs.declared.event.Op.TheVariants.{Load, Store, Lr, Sc, ScFailed, Amo, Branch, Carrier}
use Rattle.rv_event.specs.declared.event.Op.TheVariants.{Fence, FenceTso}
use Rattle.rv_event.specs.declared.event.Set.{Set}
use Rattle.rv_event.specs.declared.event.Set.TheVariants.{R, W, Rw}
use Rattle.rv_coverage.specs.declared.kind.Kind.{Kind}

-- an LR, an SC, a failed SC and an AMO may acquire and release
abbrev pub has_bits : Op → Bool
has_bits Lr = true
has_bits Sc = true
has_bits ScFailed = true
has_bits Amo = true
has_bits _ = false

abbrev pub annotated : Op → Bool → Bool → Kind
annotated o acquire release = record { op = o; acquire = acquire; release = release }

abbrev pub bare : Op → Kind
bare o = annotated o false false

abbrev pub kind_of : Event → Kind
kind_of e = annotated e.op (has_bits e.op && e.acquire) (has_bits e.op && e.release)

-- the kinds that a trace can have
abbrev pub kinds : List Kind
kinds =
    bare Load ∷ bare Store
    ∷ bare Lr ∷ annotated Lr true false ∷ annotated Lr true true
    ∷ bare Sc ∷ annotated Sc false true ∷ annotated Sc true true
    ∷ bare ScFailed ∷ annotated ScFailed false true ∷ annotated ScFailed true true
    ∷ bare Amo ∷ annotated Amo true false ∷ annotated Amo false true ∷ annotated Amo true true
    ∷ bare (Fence R R) ∷ bare (Fence R W) ∷ bare (Fence R Rw)
    ∷ bare (Fence W R) ∷ bare (Fence W W) ∷ bare (Fence W Rw)
    ∷ bare (Fence Rw R) ∷ bare (Fence Rw W) ∷ bare (Fence Rw Rw)
    ∷ bare FenceTso ∷ bare Branch ∷ bare Carrier ∷ []

-- the bits as the assembler has them
abbrev pub bits_text : Bool → Bool → List ℕ
bits_text true true = codes ".aqrl"
bits_text true false = codes ".aq"
bits_text false true = codes ".rl"
bits_text false false = []

abbrev pub operation_text : Op → List ℕ → List ℕ
operation_text Load bits = codes "load"
operation_text Store bits = codes "store"
operation_text Lr bits = codes "LR" ⋯ bits
operation_text Sc bits = codes "SC" ⋯ bits
operation_text ScFailed bits = codes "failed SC" ⋯ bits
operation_text Amo bits = codes "AMO" ⋯ bits
operation_text (Fence pred succ) bits = codes "fence " ⋯ set_text pred ⋯ codes "," ⋯ set_text succ
operation_text FenceTso bits = codes "fence.tso"
operation_text Branch bits = codes "branch"
operation_text Carrier bits = codes "instruction"

abbrev pub kind_text : Kind → List ℕ
kind_text k = operation_text k.op (bits_text k.acquire k.release)

-- ---- whether an event is of a kind
abbrev pub same_bit : Bool → Bool → Bool
same_bit true b = b
same_bit false b = not b

abbrev pub same_set : Set → Set → Bool
same_set R R = true
same_set W W = true
same_set Rw Rw = true
same_set _ _ = false

abbrev pub same_op : Op → Op → Bool
same_op Load Load = true
same_op Store Store = true
same_op Lr Lr = true
same_op Sc Sc = true
same_op ScFailed ScFailed = true
same_op Amo Amo = true
same_op (Fence p s) (Fence q t) = same_set p q && same_set s t
same_op FenceTso FenceTso = true
same_op Branch Branch = true
same_op Carrier Carrier = true
same_op _ _ = false

abbrev pub same_kind : Kind → Kind → Bool
same_kind k j = same_op k.op j.op && (same_bit k.acquire j.acquire && same_bit k.release j.release)

abbrev pub is_of : Kind → Event → Bool
is_of k e = same_kind k (kind_of e)
