-- Rows as they are printed and read.
use Rattle.std.proofs.Common.{◌≡◌, ◌==◌, ◌≤◌, ℕ, List, length, refl, sym}
use Rattle.std.proofs.Common.{inl, inr, true, false, Bool, Ok, Result, subst, ap}
use Rattle.std.proofs.lemmas.Bool.{cases_Bool}
use Rattle.std.proofs.Common.{arith}
use Rattle.csv.specs.Records.{field_at}
use Rattle.rv_event.specs.Rows.{event_fields, number_text}
use Rattle.rv_event.specs.declared.event.Event.{Event}
use Rattle.rv_trace.specs.Dependencies.{dependencies}
use Rattle.rv_trace.specs.Numbers.{blank, number, value}
use Rattle.rv_trace.specs.Operations.{annotated, columns_of, mnemonic}
use Rattle.rv_trace.specs.Row.{Fields, eight, event_of, field}
use Rattle.rv_trace.specs.Written.{IsInRow}
use Rattle.rv_trace.specs.declared.dialect.Dialect.{Dialect}
use Rattle.rv_trace.specs.declared.fault.FaultKind.{FaultKind}
use Rattle.rv_trace.specs.declared.operation.Mnemonic.{Mnemonic}
use Rattle.rv_trace.proofs.WrittenDeps.{AreSaid, and_then, dependencies-text, deps_are}
use Rattle.rv_trace.proofs.WrittenMarks.{IsMarked, carrier_named, marked_of}
use Rattle.rv_trace.proofs.WrittenNumbers.{blank-zero, number-decimal, number-le}

-- a number of a column that the operation has, or 0
pub record IsValue (has : Bool) (n : ℕ) : Type 0 where
  pub low : n ≤ 4294967295
  pub none : has ≡ false → n ≡ 0

value_is : (has : Bool) (text : List ℕ) (n : ℕ) → value has text ≡ Ok n → IsValue has n
value_is true text n said = record { low = number-le 4294967295 text n said; none = λ e. cc e }
value_is false text n said =
    let zero = blank-zero text n said in record { low = omega arith; none = λ _. zero }

value-text : (has : Bool) (n : ℕ) → IsValue has n → value has (number_text has n) ≡ Ok n
unfolding blank
value-text true n is = number-decimal 4294967295 n is.low (omega arith)
value-text false n is = ap Ok (sym (is.none refl))

-- what a row says of an event that it says
pub record IsRowOf (d : Dialect) (e : Event) : Type 0 where
  pub name : Mnemonic
  pub hart : e.id.hart ≤ 255
  pub seq : e.id.seq ≤ 4294967295
  pub marked : IsMarked d name (e.op, e.acquire, e.release)
  pub word : IsValue (columns_of name).word e.word
  pub read : IsValue (columns_of name).read e.read
  pub wrote : IsValue (columns_of name).wrote e.wrote
  pub deps : AreSaid (columns_of name) e.deps
  pub few : length e.deps ≤ 8

pub same_event : (a e : Event) → (let r : Result Event FaultKind = Ok a in r ≡ Ok e) → a ≡ e
same_event a e said = cc said

row_is : (d : Dialect) (fields : Fields) (e : Event) → eight d fields ≡ Ok e → IsRowOf d e
unfolding eight
row_is d fields e said =
    let hart = and_then (number 255 (field fields 0)) _ e said in
    let seq = and_then (number 4294967295 (field fields 1)) _ e hart.2 in
    let name = and_then (mnemonic d (field fields 2)) _ e seq.2 in
    let word = and_then (value (columns_of name.0).word (field fields 3)) _ e name.2 in
    let read = and_then (value (columns_of name.0).read (field fields 4)) _ e word.2 in
    let wrote = and_then (value (columns_of name.0).wrote (field fields 5)) _ e read.2 in
    let op = and_then (annotated name.0 (field fields 6)) _ e wrote.2 in
    let deps = and_then (dependencies (columns_of name.0) (field fields 7)) _ e op.2 in
    let is : (record {
      id = record { hart = hart.0; seq = seq.0 };
      op = op.0.0;
      word = word.0;
      read = read.0;
      wrote = wrote.0;
      acquire = op.0.1;
      release = op.0.2;
      deps = deps.0;
    }) ≡ e = same_event _ e deps.2 in
    let said_deps = deps_are (columns_of name.0) _ deps.0 deps.1 in
    subst (IsRowOf d) is (record {
      name = name.0;
      hart = number-le 255 _ hart.0 hart.1;
      seq = number-le 4294967295 _ seq.0 seq.1;
      marked = marked_of d name.0 _ op.0 (carrier_named d _ name.0 name.1) op.1;
      word = value_is _ _ word.0 word.1;
      read = value_is _ _ read.0 read.1;
      wrote = value_is _ _ wrote.0 wrote.1;
      deps = said_deps.0;
      few = said_deps.1;
    })

-- an event that a row says is one that the columns can hold
pub said_is : (d : Dialect) (e : Event) → IsInRow d e → IsRowOf d e
unfolding event_of
said_is d e in_row = elim (cases_Bool (length in_row.fields == 8)) [
  | inl whole ↦ let h = rw whole at in_row.says in row_is d in_row.fields e h
  | inr other ↦ let h = rw other at in_row.says in absurd (cc h)
]

-- eight fields that are read one by one are the event
eight-of : (d : Dialect) (fields : Fields) (e : Event) (n : Mnemonic) →
    number 255 (field fields 0) ≡ Ok e.id.hart → number 4294967295 (field fields 1) ≡ Ok e.id.seq →
    mnemonic d (field fields 2) ≡ Ok n → value (columns_of n).word (field fields 3) ≡ Ok e.word →
    value (columns_of n).read (field fields 4) ≡ Ok e.read → value (columns_of n).wrote (field fields 5) ≡ Ok e.wrote →
    annotated n (field fields 6) ≡ Ok (e.op, e.acquire, e.release) →
    dependencies (columns_of n) (field fields 7) ≡ Ok e.deps → eight d fields ≡ Ok e
unfolding eight
eight-of d fields e n hart seq name word read wrote op deps = rw (hart, seq, name, word, read, wrote, op, deps) refl

column : (has column : Bool) (n : ℕ) → has ≡ column → IsValue column n → value column (number_text has n) ≡ Ok n
column has own n same is =
    subst (λ (b : Bool). value own (number_text b n) ≡ Ok n) (sym same) (value-text own n is)

-- the row that an event is printed as is read as the event
pub row-text : (d : Dialect) (e : Event) → IsRowOf d e → event_of d (event_fields e) ≡ Ok e
unfolding event_of field_at
row-text d e r =
    eight-of d (event_fields e) e r.name (number-decimal 255 e.id.hart r.hart (omega arith))
    (number-decimal 4294967295 e.id.seq r.seq (omega arith)) r.marked.named
    (column _ _ e.word r.marked.word r.word) (column _ _ e.read r.marked.read r.read)
    (column _ _ e.wrote r.marked.wrote r.wrote) r.marked.marked
    (dependencies-text (columns_of r.name) e.deps r.deps r.few)
