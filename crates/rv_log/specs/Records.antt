-- What a record says, or its first fault from the left.
use Rattle.std.specs.Prelude.{ℕ, ◌==◌, List, [], length, Bool, true, false, Option, Result, Ok, Err}
use Rattle.std.specs.Prelude.{nat_lt, if◌then◌else◌, is_some, unwrap_or, option_map, codes, bytes_eq, slice_index_or}
use Rattle.csv.specs.Records.{field_at}
use Rattle.rv_insn.specs.Decoding.{decoded}
use Rattle.rv_insn.specs.declared.insn.Insn.{Insn}
use Rattle.rv_insn.specs.declared.insn.Width.{Width}
use Rattle.rv_insn.specs.declared.undecoded.Undecoded.{Undecoded}
use Rattle.rv_log.specs.Accesses.{access, has_rdata, has_wdata}
use Rattle.rv_log.specs.Numbers.{blank, needed, number, optional}
use Rattle.rv_log.specs.Steps.{◌>>=◌}
use Rattle.rv_log.specs.declared.access.Access.{Access}
use Rattle.rv_log.specs.declared.fault.Field.TheVariants.{Hart, Order, Pc, Insn as Word, Addr, Rdata, Wdata, Time}
use Rattle.rv_log.specs.declared.fault.RecordFault.{RecordFault}
use Rattle.rv_log.specs.declared.fault.RecordFault.TheVariants as fault
use Rattle.rv_log.specs.declared.number.Form.{Form}
use Rattle.rv_log.specs.declared.record.Before.{Before}
use Rattle.rv_log.specs.declared.record.Record.{Record}
use Rattle.rv_log.specs.declared.record.Record.TheVariants as record_is

-- the fields of a record, each as its bytes
abbrev pub Fields : Type 0
Fields = List (List ℕ)

-- the field at a place, blank where there is none
abbrev pub field : Fields → ℕ → List ℕ
field fields i = unwrap_or (field_at fields i) []

-- numbers in decimal, and with 16 digits
abbrev pub decimal : ℕ → Form
decimal max = record { radix = 10; most = 20; max = max }

abbrev pub hexadecimal : (most max : ℕ) → Form
hexadecimal most max = record { radix = 16; most = most; max = max }

abbrev pub hart_said : List ℕ → Result ℕ RecordFault
hart_said text = do
  hart ← number (decimal 4294967295) Hart text
  if nat_lt 15 hart then Err fault.Hart else Ok hart

abbrev pub order_said : List ℕ → Result ℕ RecordFault
order_said text = number (decimal 18446744073709551615) Order text

abbrev pub address_form : Form
address_form = hexadecimal 16 18446744073709551615

abbrev pub time_form : Form
time_form = decimal 9223372036854775808

-- an order that is to be this one, else a fault
abbrev pub order_is : ℕ → RecordFault → ℕ → Result ℕ RecordFault
order_is wanted fault order = if order == wanted then Ok order else Err fault

-- an instruction that is known
abbrev pub instruction : Result Insn Undecoded → Result Insn RecordFault
instruction (Ok insn) = Ok insn
instruction (Err why) = Err (fault.Instruction why)

unfoldable pub bits_said : Width → ℕ → Result Insn RecordFault
bits_said width bits = instruction (decoded width bits)

-- whether the record of an access, if there is one, may tell what it returned, and wrote
abbrev pub may_have_rdata : Option Access → Bool
may_have_rdata a = unwrap_or (option_map (λ x. has_rdata x.kind) a) false

abbrev pub may_have_wdata : Option Access → Bool
may_have_wdata a = unwrap_or (option_map (λ x. has_wdata x.kind) a) false

-- an instruction that retired: the next of its hart
unfoldable pub retired : Width → Before → Fields → Result Record RecordFault
retired width before fields = do
  hart ← hart_said (field fields 1)
  order ← order_said (field fields 2)
  _ ← order_is (slice_index_or before.retired hart 0) (fault.Order (slice_index_or before.retired hart 0)) order
  pc ← number address_form Pc (field fields 3)
  bits ← number (hexadecimal 8 4294967295) Word (field fields 4)
  insn ← bits_said width bits
  address ← needed (is_some (access insn.operation)) address_form Addr (field fields 5)
  rdata ← optional (may_have_rdata (access insn.operation)) address_form Rdata (field fields 6)
  wdata ← optional (may_have_wdata (access insn.operation)) address_form Wdata (field fields 7)
  time ← optional true time_form Time (field fields 8)
  Ok (record_is.Retired (record {
    hart = hart;
    order = order;
    pc = pc;
    bits = bits;
    insn = insn;
    access = access insn.operation;
    address = address;
    rdata = rdata;
    wdata = wdata;
    time = time;
  }))

-- a store that took effect
unfoldable pub performed : Fields → Result Record RecordFault
performed fields = do
  hart ← hart_said (field fields 1)
  order ← order_said (field fields 2)
  _ ← blank Pc (field fields 3)
  _ ← blank Word (field fields 4)
  address ← number address_form Addr (field fields 5)
  _ ← blank Rdata (field fields 6)
  wdata ← optional true address_form Wdata (field fields 7)
  time ← number time_form Time (field fields 8)
  Ok (record_is.Performed (record { hart = hart; order = order; address = address; wdata = wdata; time = time }))

-- the end, which says how many records there are before it
unfoldable pub ended : Before → Fields → Result Record RecordFault
ended before fields = do
  _ ← blank Hart (field fields 1)
  order ← order_said (field fields 2)
  _ ← order_is before.records fault.End order
  _ ← blank Pc (field fields 3)
  _ ← blank Word (field fields 4)
  _ ← blank Addr (field fields 5)
  _ ← blank Rdata (field fields 6)
  _ ← blank Wdata (field fields 7)
  _ ← blank Time (field fields 8)
  Ok record_is.End

-- by its kind
abbrev pub of_kind : List ℕ → Width → Before → Fields → Result Record RecordFault
of_kind kind width before fields =
    if bytes_eq kind (codes "C") then retired width before fields
    else if bytes_eq kind (codes "P") then performed fields
    else if bytes_eq kind (codes "E") then ended before fields
    else Err fault.Kind

unfoldable pub record_said : Width → Before → Fields → Result Record RecordFault
record_said width before fields =
    if length fields == 9 then of_kind (field fields 0) width before fields else Err fault.Fields
