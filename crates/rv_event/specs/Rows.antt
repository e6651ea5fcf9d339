-- The row of a trace that an event is printed as, byte by byte, without the end of the line.
use Rattle.std.specs.Prelude.{ℕ, List, [], ◌∷◌, ◌++◌, Bool, true, false, codes, decimal, map}
use Rattle.std.specs.List.{join_with_byte}
use Rattle.rv_event.specs.declared.event.Dep.{Dep}
use Rattle.rv_event.specs.declared.event.DepKind.{DepKind}
use Rattle.rv_event.specs.declared.event.DepKind.TheVariants.{Addr, DataOf, Ctrl}
use Rattle.rv_event.specs.declared.event.Event.{Event}
use Rattle.rv_event.specs.declared.event.Op.{Op}
use Rattle.rv_event.specs.declared.event.Op.TheVariants.{Load, Store, Lr, Sc, ScFailed, Amo, Branch, Carrier}
use Rattle.rv_event.specs.declared.event.Op.TheVariants.{Fence, FenceTso}
use Rattle.rv_event.specs.declared.event.Set.{Set}
use Rattle.rv_event.specs.declared.event.Set.TheVariants.{R, W, Rw}
use Rattle.rv_event.specs.Operations.{is_load, is_store, has_word}

abbrev pub set_text : Set → List ℕ
set_text R = codes "r"
set_text W = codes "w"
set_text Rw = codes "rw"

abbrev pub op_text : Op → List ℕ
op_text Load = codes "L"
op_text Store = codes "S"
op_text Lr = codes "LR"
op_text Sc = codes "SC"
op_text ScFailed = codes "SF"
op_text Amo = codes "AMO"
op_text (Fence pred succ) = codes "F"
op_text FenceTso = codes "FT"
op_text Branch = codes "BR"
op_text Carrier = codes "I"

-- a number where the operation has it, and else nothing
abbrev pub number_text : Bool → ℕ → List ℕ
number_text true n = decimal n
number_text false n = []

abbrev pub bits_text : Bool → Bool → List ℕ
bits_text true true = codes "AR"
bits_text true false = codes "A"
bits_text false true = codes "R"
bits_text false false = []

-- the two sets of a fence; for any other operation its acquire and release bits
abbrev pub marks_text : Op → Bool → Bool → List ℕ
marks_text (Fence pred succ) acquire release = set_text pred ++ (codes "-" ++ set_text succ)
marks_text Load acquire release = bits_text acquire release
marks_text Store acquire release = bits_text acquire release
marks_text Lr acquire release = bits_text acquire release
marks_text Sc acquire release = bits_text acquire release
marks_text ScFailed acquire release = bits_text acquire release
marks_text Amo acquire release = bits_text acquire release
marks_text FenceTso acquire release = bits_text acquire release
marks_text Branch acquire release = bits_text acquire release
marks_text Carrier acquire release = bits_text acquire release

abbrev pub kind_text : DepKind → List ℕ
kind_text Addr = codes "a"
kind_text DataOf = codes "d"
kind_text Ctrl = codes "c"

abbrev pub dep_text : Dep → List ℕ
dep_text d = kind_text d.kind ++ decimal d.seq

-- one space between two
abbrev pub deps_text : List Dep → List ℕ
deps_text ds = join_with_byte 32 (map dep_text ds)

-- hart, seq, op, word, read, wrote, ann, deps
abbrev pub event_fields : Event → List (List ℕ)
event_fields e =
    decimal e.id.hart ∷ decimal e.id.seq ∷ op_text e.op
    ∷ number_text (has_word e.op) e.word ∷ number_text (is_load e.op) e.read ∷ number_text (is_store e.op) e.wrote
    ∷ marks_text e.op e.acquire e.release ∷ deps_text e.deps ∷ []

-- one comma between two
abbrev pub event_text : Event → List ℕ
event_text e = join_with_byte 44 (event_fields e)
