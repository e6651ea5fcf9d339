-- Traces that are written from events, as the CSV reader tells them apart.
use Rattle.std.proofs.Common.{◌≡◌, ◌<◌, ◌≤◌, ◌+◌, ℕ, zero, suc, List, [], ◌∷◌, ◌++◌, length, map, refl, sym, ap}
use Rattle.std.proofs.Common.{◌∙◌, if◌then◌else◌, false, true, Bool, Some, None, All, arith, add-one}
use Rattle.std.proofs.Common.{append_assoc, append-nil}
use Rattle.std.specs.Prelude.{codes}
use Rattle.std.specs.List.{join_with_byte}
use Rattle.std.proofs.lemmas.Bool.{le-ltb, ne_eqb}
use Rattle.std.proofs.lemmas.List.{length-append}
use Rattle.std.proofs.lemmas.List.Elements.{All-append, All-cons, All-head, All-nil, All-tail}
use Rattle.std.proofs.lemmas.List.Folds.{list_any_none}
use Rattle.csv.proofs.RoundTrip.{read-write-many}
use Rattle.csv.specs.Machine.{Read, next_record}
use Rattle.csv.specs.Reading.{default_config, records_from, strip_bom}
use Rattle.csv.specs.Records.{field_at}
use Rattle.csv.specs.Writing.{default_writer, field_text, fields_text, is_blank, needs_byte, row_text}
use Rattle.csv.specs.declared.parser.State.TheVariants as state
use Rattle.rv_event.specs.Operations.{has_word, is_load, is_store}
use Rattle.rv_event.specs.Rows.{bits_text, dep_text, deps_text, event_fields}
use Rattle.rv_event.specs.Rows.{event_text, marks_text, number_text, op_text}
use Rattle.rv_event.specs.Rows.{set_text}
use Rattle.rv_event.specs.declared.event.Dep.{Dep}
use Rattle.rv_event.specs.declared.event.Event.{Event}
use Rattle.rv_event.specs.declared.event.Op.{Op}
use Rattle.rv_event.specs.declared.event.Op.TheVariants as op
use Rattle.rv_event.specs.declared.event.Set.{Set}
use Rattle.rv_event.specs.declared.event.Set.TheVariants.{R, W, Rw}
use Rattle.rv_trace.specs.Operations.{columns_of}
use Rattle.rv_trace.specs.Row.{Fields, event_of}
use Rattle.rv_trace.specs.Source.{end_of, last_says, records_say, rows_say, text_records}
use Rattle.rv_trace.specs.Written.{IsInRow, TextsTellEvents, WrittenTracesAreRead, rows_text, trace_text}
use Rattle.rv_trace.specs.declared.dialect.Dialect.{Dialect}
use Rattle.rv_trace.specs.declared.operation.Columns.{Columns}
use Rattle.rv_trace.proofs.WrittenDeps.{AreSaid, all_dep}
use Rattle.rv_trace.proofs.WrittenNumbers.{all_decimal}
use Rattle.rv_trace.proofs.WrittenRows.{IsRowOf, row-text, said_is, same_event}

-- a byte that is no mark of CSV
abbrev IsPlain : ℕ → Type 0
IsPlain b = needs_byte default_writer b ≡ false

digit_plain : (c : ℕ) → 48 ≤ c → c ≤ 57 → IsPlain c
digit_plain c low high = rw (
  ne_eqb c 44 (λ e. omega (arith, e)),
  ne_eqb c 34 (λ e. omega (arith, e)),
  ne_eqb c 13 (λ e. omega (arith, e)),
  ne_eqb c 10 (λ e. omega (arith, e)),
) refl

-- one letter, and two
one : (a : ℕ) → IsPlain a → All IsPlain (a ∷ [])
one a p = All-cons IsPlain a [] p (All-nil IsPlain)

two : (a b : ℕ) → IsPlain a → IsPlain b → All IsPlain (a ∷ b ∷ [])
two a b p q = All-cons IsPlain a (b ∷ []) p (one b q)

-- each field of an event is without marks
op_plain : (o : Op) → All IsPlain (op_text o)
op_plain op.Load = one 76 refl
op_plain op.Store = one 83 refl
op_plain op.Lr = two 76 82 refl refl
op_plain op.Sc = two 83 67 refl refl
op_plain op.ScFailed = two 83 70 refl refl
op_plain op.Amo = All-cons IsPlain 65 (77 ∷ 79 ∷ []) refl (two 77 79 refl refl)
op_plain (op.Fence a b) = one 70 refl
op_plain op.FenceTso = two 70 84 refl refl
op_plain op.Branch = two 66 82 refl refl
op_plain op.Carrier = one 73 refl

set_plain : (s : Set) → All IsPlain (set_text s)
set_plain R = one 114 refl
set_plain W = one 119 refl
set_plain Rw = two 114 119 refl refl

bits_plain : (a r : Bool) → All IsPlain (bits_text a r)
bits_plain true true = two 65 82 refl refl
bits_plain true false = one 65 refl
bits_plain false true = one 82 refl
bits_plain false false = All-nil IsPlain

marks_plain : (o : Op) (a r : Bool) → All IsPlain (marks_text o a r)
marks_plain (op.Fence s t) a r =
    All-append IsPlain (set_text s) (codes "-" ++ set_text t) (set_plain s)
    (All-cons IsPlain 45 (set_text t) refl (set_plain t))
marks_plain op.Load a r = bits_plain a r
marks_plain op.Store a r = bits_plain a r
marks_plain op.Lr a r = bits_plain a r
marks_plain op.Sc a r = bits_plain a r
marks_plain op.ScFailed a r = bits_plain a r
marks_plain op.Amo a r = bits_plain a r
marks_plain op.FenceTso a r = bits_plain a r
marks_plain op.Branch a r = bits_plain a r
marks_plain op.Carrier a r = bits_plain a r

number_plain : (has : Bool) (n : ℕ) → n ≤ 4294967295 → All IsPlain (number_text has n)
number_plain true n low = all_decimal IsPlain digit_plain n (omega arith)
number_plain false n low = All-nil IsPlain

dep_plain : (d : Dep) → d.seq ≤ 1073741823 → All IsPlain (dep_text d)
dep_plain = all_dep IsPlain refl refl refl digit_plain

deps_plain : (columns : Columns) (ds : List Dep) → AreSaid columns ds → All IsPlain (deps_text ds)
deps_plain columns [] said = All-nil IsPlain
deps_plain columns (d ∷ []) said = dep_plain d said.0.low
deps_plain columns (d ∷ e ∷ es) said =
    All-append IsPlain (dep_text d) (32 ∷ deps_text (e ∷ es)) (dep_plain d said.0.low)
    (All-cons IsPlain 32 _ refl (deps_plain columns (e ∷ es) said.1))

-- fields without marks are written as they stand
plain_field : (x : List ℕ) → All IsPlain x → field_text default_writer x ≡ x
plain_field x plain = rw (list_any_none (needs_byte default_writer) x plain) refl

abbrev ArePlain : List (List ℕ) → Type 0
ArePlain [] = Unit {0}
ArePlain (x ∷ xs) = All IsPlain x × ArePlain xs

plain_fields : (x : List ℕ) (xs : List (List ℕ)) → ArePlain (x ∷ xs) →
    field_text default_writer x ++ fields_text default_writer xs ≡ join_with_byte 44 (x ∷ xs)
unfolding fields_text
plain_fields x [] plain = append-nil (field_text default_writer x) ∙ plain_field x plain.0
plain_fields x (y ∷ ys) plain =
    rw (plain_field x plain.0) (ap (λ (t : List ℕ). x ++ (44 ∷ t)) (plain_fields y ys plain.1))

-- a line of fields without marks is their record
record_read : (x y : List ℕ) (rest : List (List ℕ)) (tail : List ℕ) → ArePlain (x ∷ y ∷ rest) →
    next_record default_config state.StartRecord [] [] (join_with_byte 44 (x ∷ y ∷ rest) ++ (10 ∷ tail))
    ≡ Some (x ∷ y ∷ rest, state.StartRecord, tail)
unfolding is_blank
record_read x y rest tail plain =
    let line : row_text default_writer (x ∷ y ∷ rest) ++ tail ≡ join_with_byte 44 (x ∷ y ∷ rest) ++ (10 ∷ tail) =
    append_assoc (field_text default_writer x ++ fields_text default_writer (y ∷ rest)) (10 ∷ []) tail
    ∙ ap (λ (t : List ℕ). t ++ (10 ∷ tail)) (plain_fields x (y ∷ rest) plain) in
    ap (next_record default_config state.StartRecord [] []) (sym line) ∙ read-write-many x y rest tail

event_plain : (d : Dialect) (e : Event) → IsRowOf d e → ArePlain (event_fields e)
event_plain d e r = (
  all_decimal IsPlain digit_plain e.id.hart (omega (arith, r.hart)),
  (
    all_decimal IsPlain digit_plain e.id.seq (omega (arith, r.seq)),
    (
      op_plain e.op,
      (
        number_plain (has_word e.op) e.word r.word.low,
        (
          number_plain (is_load e.op) e.read r.read.low,
          (
            number_plain (is_store e.op) e.wrote r.wrote.low,
            (
              marks_plain e.op e.acquire e.release,
              (deps_plain (columns_of r.name) e.deps r.deps, tt),
            ),
          ),
        ),
      ),
    ),
  ),
)

event_read : (d : Dialect) (e : Event) (tail : List ℕ) → IsRowOf d e →
    next_record default_config state.StartRecord [] [] (event_text e ++ (10 ∷ tail))
    ≡ Some (event_fields e, state.StartRecord, tail)
event_read d e tail r = record_read _ _ _ tail (event_plain d e r)

-- each line is a record
rows_read : (d : Dialect) (es : List Event) (n : ℕ) → All (IsInRow d) es → length es < n →
    records_from default_config n state.StartRecord (rows_text es) ≡ map event_fields es
unfolding records_from next_record
rows_read d es zero said fuel = absurd (omega arith)
rows_read d [] (suc n) said fuel = refl
rows_read d (e ∷ es) (suc n) said fuel =
    let first = event_read d e (rows_text es) (said_is d e (All-head (IsInRow d) e es said)) in
    rw first (ap (λ (rs : List Fields). event_fields e ∷ rs)
    (rows_read d es n (All-tail (IsInRow d) e es said) (omega arith)))

long : (es : List Event) → length es ≤ length (rows_text es)
long [] = omega arith
long (e ∷ es) = omega (arith, long es, length-append (event_text e) (10 ∷ rows_text es))

-- none of them is an end record, which has two fields
no_end_in : (has : Bool) (e : Event) → (if has then end_of (event_fields e) else None) ≡ None
unfolding end_of
no_end_in true e = refl
no_end_in false e = refl

no_end : (d : Dialect) (e : Event) (es : List Event) → last_says d (event_fields e) (map event_fields es) ≡ None
no_end d e [] = no_end_in d.end_record e
no_end d e (next ∷ es) = refl

-- and each record is its event
rows_said : (d : Dialect) (es : List Event) (n : ℕ) → All (IsInRow d) es → n + length es ≤ 65537 →
    rows_say d n (map event_fields es) ≡ record { events = es; end = None; said = None }
unfolding rows_say
rows_said d [] n said few = refl
rows_said d (e ∷ es) n said few =
    let first = row-text d e (said_is d e (All-head (IsInRow d) e es said)) in
    let more = rows_said d es (n + 1) (All-tail (IsInRow d) e es said) (omega arith) in
    rw (no_end d e es, le-ltb 65536 n (omega arith), first, more) refl

-- the header's fields
abbrev header : Fields
header = codes "hart" ∷ codes "seq" ∷ codes "op" ∷ codes "word" ∷ codes "read" ∷ codes "wrote" ∷ codes "ann"
    ∷ codes "deps" ∷ []

header_read : (tail : List ℕ) → next_record default_config state.StartRecord [] []
    (codes "hart,seq,op,word,read,wrote,ann,deps" ++ (10 ∷ tail)) ≡ Some (header, state.StartRecord, tail)
unfolding next_record
header_read tail = refl

lines_read : (d : Dialect) (es : List Event) (n : ℕ) → All (IsInRow d) es → length es < n →
    records_from default_config (suc n) state.StartRecord (trace_text es) ≡ header ∷ map event_fields es
unfolding records_from
lines_read d es n said fuel =
    rw (header_read (rows_text es)) (ap (λ (rs : List Fields). header ∷ rs) (rows_read d es n said fuel))

text_read : (d : Dialect) (es : List Event) → All (IsInRow d) es →
    text_records (trace_text es) ≡ header ∷ map event_fields es
unfolding strip_bom
text_read d es said =
    let text = trace_text es in
    let fuel : length es < length text =
    omega (arith, long es, length-append (codes "hart,seq,op,word,read,wrote,ann,deps") (10 ∷ rows_text es)) in
    ap (λ (n : ℕ). records_from default_config n state.StartRecord text) (add-one (length text))
    ∙ lines_read d es (length text) said fuel

pub written : WrittenTracesAreRead
unfolding records_say field_at
written d es said few = ap (records_say d) (text_read d es said) ∙ rows_said d es 1 said (omega arith)

same_record : (p q : Read) → Some p ≡ Some q → p.0 ≡ q.0
same_record p q same = let is : p ≡ q = cc same in ap (λ (r : Read). r.0) is

pub told : TextsTellEvents
told d a b in_a in_b same =
    let row_a = said_is d a in_a in
    let row_b = said_is d b in_b in
    let both = sym (event_read d a [] row_a)
    ∙ ap (λ (t : List ℕ). next_record default_config state.StartRecord [] [] (t ++ (10 ∷ []))) same
    ∙ event_read d b [] row_b in
    let fields = same_record _ _ both in
    same_event a b (sym (row-text d a row_a) ∙ ap (event_of d) fields ∙ row-text d b row_b)
