-- What a row does to the stream that is left.
use Rattle.std.proofs.Common.{rules, ◌≡◌, ◌≢◌, ◌∙◌, inl, inr, ◌∷◌, [], ℕ, ◌+◌, ◌<◌, ◌≤◌, List, Option, None, Some}
use Rattle.std.proofs.Common.{Ok, Err, Result, ap, sym, true, false, refl, option_map, nat_lt, arith}
use Rattle.std.proofs.lemmas.Grind.{common_steps}
use Rattle.std.specs.Prelude.{IsSome, ⊤}
use Rattle.csv.specs.Records.{Row, fields_of}
use Rattle.rv_trace.specs.declared.dialect.Dialect.{Dialect}
use Rattle.rv_trace.specs.declared.fault.FaultKind.{FaultKind}
use Rattle.rv_trace.specs.declared.fault.FaultKind.TheVariants as fault
use Rattle.rv_trace.specs.declared.fault.TraceFault.{TraceFault}
use Rattle.rv_event.specs.declared.event.Event.{Event}
use Rattle.rv_trace.specs.Faults.{IsOfTextOrMemory, is_of_text}
use Rattle.rv_trace.specs.Row.{Fields, event_of}
use Rattle.rv_trace.specs.Rows.{NoRow, TakesRow}
use Rattle.rv_trace.specs.Source.{Stream, after_row, end_in, end_of, fault_at, fails_at, is_header, last_says}
use Rattle.rv_trace.specs.Source.{records_say, row_says, rows_say, unless_end, whole}
use Rattle.rv_trace.specs.Trace.{GoesOn, HasHeader, IsFaultOf, IsWhole, TakesEvent}

header-goes : (d : Dialect) (rs ts : List Fields) (h : Fields) → rs ≡ h ∷ ts → is_header h ≡ true
    → records_say d rs ≡ rows_say d 1 ts
unfolding records_say
header-goes d rs ts h e t = rw (e, t) refl

header-wrong : (d : Dialect) (rs ts : List Fields) (h : Fields) → rs ≡ h ∷ ts → is_header h ≡ false
    → records_say d rs ≡ fails_at fault.Header 0
unfolding records_say
header-wrong d rs ts h e t = rw (e, t) refl

header-none : (d : Dialect) (rs : List Fields) → rs ≡ [] → records_say d rs ≡ fails_at fault.Header 0
unfolding records_say
header-none d rs e = rw e refl

-- a record that is no end record is a row
row-goes : (d : Dialect) (rs ts : List Fields) (r : Fields) (n : ℕ) → rs ≡ r ∷ ts → last_says d r ts ≡ None
    → rows_say d n rs ≡ after_row n (row_says d n r) (rows_say d (n + 1) ts)
unfolding rows_say
row-goes d rs ts r n e other = rw (e, other) refl

-- it is none by its fields, or since another record stands behind it
other-fields : (d : Dialect) (r : Fields) (ts : List Fields) → end_in d r ≡ None → last_says d r ts ≡ None
other-fields d r [] other = other
other-fields d r (t ∷ ts) other = refl

not-last : (d : Dialect) (r t : Fields) (ts us : List Fields) → ts ≡ t ∷ us → last_says d r ts ≡ None
not-last d r t ts us behind = rw behind refl

-- an end record has two fields, and a row eight
end-fields : (d : Dialect) (r : Fields) (said : ℕ) → end_in d r ≡ Some said → event_of d r ≡ Err fault.Fields
unfolding end_of event_of
end-fields d r said is = grind (arith, common_steps)

-- an end record stands last
last-goes : (d : Dialect) (rs ts : List Fields) (r : Fields) (n : ℕ) (said : Option ℕ) → rs ≡ r ∷ ts → ts ≡ []
    → end_in d r ≡ said → IsSome said → rows_say d n rs ≡ whole said
unfolding rows_say
last-goes d rs ts r n None e none is some = cc some
last-goes d rs ts r n (Some said) e none is some = rw (e, none, is) refl

rows-none : (d : Dialect) (rs : List Fields) (n : ℕ) → rs ≡ [] → rows_say d n rs ≡ whole None
unfolding rows_say
rows-none d rs n e = rw e refl

-- the header was read
pub header-taken : (d : Dialect) (old new : Option (List Fields)) (row : Row) → TakesRow old new row
    → is_header (fields_of row) ≡ true
    → GoesOn (option_map (records_say d) old) (option_map (rows_say d 1) new)
header-taken d old new row h l = search (header-goes, rules)

row-begun : (r : Result Event FaultKind) (s : Stream) → after_row 1 r s ≡ fails_at fault.Header 0 → ⊥
row-begun (Ok e) s same = let bad : e ∷ s.events ≡ [] = ap (λ (t : Stream). t.events) same in cc bad
row-begun (Err k) s same =
    let ends : Some (fault_at k 1) ≡ Some (fault_at fault.Header 0) = ap (λ (t : Stream). t.end) same in
    let bad : fault_at k 1 ≡ fault_at fault.Header 0 = cc ends in
    absurd (omega (arith, ap (λ (f : TraceFault). f.row) bad))

last-begun : (said : Option ℕ) (s : Stream) → unless_end said s ≡ fails_at fault.Header 0
    → (s ≡ fails_at fault.Header 0 → ⊥) → ⊥
last-begun None s same other = other same
last-begun (Some n) s same other =
    let bad : None ≡ Some (fault_at fault.Header 0) = ap (λ (t : Stream). t.end) same in cc bad

rows-header : (d : Dialect) (ts : List Fields) → rows_say d 1 ts ≡ fails_at fault.Header 0 → ⊥
unfolding rows_say
rows-header d [] same = let bad : None ≡ Some (fault_at fault.Header 0) = ap (λ (t : Stream). t.end) same in cc bad
rows-header d (r ∷ rs) same = last-begun (last_says d r rs) _ same (row-begun (row_says d 1 r) (rows_say d 2 rs))

-- where it was, the source has one
pub header-begun : (d : Dialect) (old new : Option (List Fields))
    → GoesOn (option_map (records_say d) old) (option_map (rows_say d 1) new)
    → HasHeader (option_map (records_say d) old)
header-begun d None new goes = tt
header-begun d (Some rs) None goes = absurd goes
header-begun d (Some rs) (Some ts) goes = λ same. rows-header d ts (sym goes ∙ same)

-- the first record is no header
pub header-other : (d : Dialect) (old new : Option (List Fields)) (row : Row) → TakesRow old new row
    → is_header (fields_of row) ≡ false
    → IsFaultOf (option_map (records_say d) old) (fault_at fault.Header 0)
header-other d None new row t h = inl refl
header-other d (Some rs) None row t h = absurd t
header-other d (Some rs) (Some ts) row t h = inl (refl, header-wrong d rs ts (fields_of row) t h)

-- there is no record
pub no-header : (d : Dialect) (old : Option (List Fields)) → NoRow old
    → IsFaultOf (option_map (records_say d) old) (fault_at fault.Header 0)
no-header d None t = inl refl
no-header d (Some rs) t = inl (refl, header-none d rs t)

-- what a record is that no end record is
abbrev pub IsOther : Dialect → Row → Option (List Fields) → Type 0
IsOther d row None = ⊤
IsOther d row (Some ts) = last_says d (fields_of row) ts ≡ None

pub other-of-fields : (d : Dialect) (row : Row) (behind : Option (List Fields)) → end_in d (fields_of row) ≡ None
    → IsOther d row behind
other-of-fields d row None other = tt
other-of-fields d row (Some ts) other = other-fields d (fields_of row) ts other

pub other-of-place : (d : Dialect) (row next : Row) (behind new : Option (List Fields)) → TakesRow behind new next
    → IsOther d row behind
other-of-place d row next None new t = tt
other-of-place d row next (Some ts) None t = absurd t
other-of-place d row next (Some ts) (Some us) t = not-last d (fields_of row) (fields_of next) ts us t

-- a row too many
pub row-long : (d : Dialect) (old new : Option (List Fields)) (row : Row) (n : ℕ) → TakesRow old new row
    → IsOther d row new → 65536 < n → IsFaultOf (option_map (rows_say d n) old) (fault_at fault.TooLong n)
row-long d None new row n t o h = inl refl
row-long d (Some rs) None row n t o h = absurd t
row-long d (Some rs) (Some ts) row n t o h =
    let long : nat_lt 65536 n ≡ true = grind arith in
    inl (refl, row-goes d rs ts (fields_of row) n t o ∙ rw long refl)

-- a row is an event
pub row-event : (d : Dialect) (old new : Option (List Fields)) (row : Row) (n m : ℕ) (e : Event) → TakesRow old new row
    → IsOther d row new → n ≤ 65536 → m ≡ n + 1 → event_of d (fields_of row) ≡ Ok e
    → TakesEvent (option_map (rows_say d n) old) (option_map (rows_say d m) new) e
row-event d None new row n m e t o h k s = tt
row-event d (Some rs) None row n m e t o h k s = t
row-event d (Some rs) (Some ts) row n m e t o h k s =
    let short : nat_lt 65536 n ≡ false = grind arith in
    rw k (row-goes d rs ts (fields_of row) n t o ∙ rw (short, s) refl)

-- a row has a fault
pub row-fault : (d : Dialect) (old new : Option (List Fields)) (row : Row) (n : ℕ) (k : FaultKind)
    → TakesRow old new row → IsOther d row new → n ≤ 65536 → event_of d (fields_of row) ≡ Err k → is_of_text k ≡ true
    → IsFaultOf (option_map (rows_say d n) old) (fault_at k n)
row-fault d None new row n k t o h s own = inl own
row-fault d (Some rs) None row n k t o h s own = absurd t
row-fault d (Some rs) (Some ts) row n k t o h s own =
    let short : nat_lt 65536 n ≡ false = grind arith in
    inl (own, row-goes d rs ts (fields_of row) n t o ∙ rw (short, s) refl)

-- an end record that does not stand last is a row with a fault
pub end-fault : (d : Dialect) (old new : Option (List Fields)) (row : Row) (n said : ℕ) → TakesRow old new row
    → IsOther d row new → n ≤ 65536 → end_in d (fields_of row) ≡ Some said
    → IsFaultOf (option_map (rows_say d n) old) (fault_at fault.Fields n)
end-fault d old new row n said t o h is =
    row-fault d old new row n fault.Fields t o h (end-fields d (fields_of row) said is) refl

-- the source has ended without an end record
pub row-none : (d : Dialect) (old : Option (List Fields)) (n : ℕ) → NoRow old
    → IsWhole (option_map (rows_say d n) old) None
row-none d None n t = tt
row-none d (Some rs) n t = rows-none d rs n t

-- and with one
pub row-last : (d : Dialect) (old new : Option (List Fields)) (row : Row) (n : ℕ) (said : Option ℕ)
    → TakesRow old new row → NoRow new → end_in d (fields_of row) ≡ said → IsSome said
    → IsWhole (option_map (rows_say d n) old) said
row-last d None new row n said t none is some = tt
row-last d (Some rs) None row n said t none is some = absurd t
row-last d (Some rs) (Some ts) row n said t none is some = last-goes d rs ts (fields_of row) n said t none is some

own-memory : (k : FaultKind) → is_of_text k ≡ true → k ≡ fault.NoMemory → ⊥
own-memory k own m = let bad : false ≡ true = rw m at own in cc

outside : (s : Option Stream) (k : FaultKind) (n : ℕ) → k ≡ fault.NoMemory → IsFaultOf s (fault_at k n)
outside None k n m = inr (inr m)
outside (Some s) k n m = inr (inr m)

-- the same of a row that memory may have refused
pub row-refused : (d : Dialect) (old new : Option (List Fields)) (row : Row) (n : ℕ) (k : FaultKind)
    → TakesRow old new row → IsOther d row new → n ≤ 65536
    → (k ≢ fault.NoMemory → event_of d (fields_of row) ≡ Err k) → IsOfTextOrMemory k
    → IsFaultOf (option_map (rows_say d n) old) (fault_at k n)
row-refused d old new row n k t o h s (inl own) =
    row-fault d old new row n k t o h (s (λ m. own-memory k own m)) own
row-refused d old new row n k t o h s (inr m) = outside _ k n m
