-- What a row does to the stream of a feed.
use Rattle.std.proofs.Common.{◌≡◌, ◌≢◌, ◌∙◌, inl, inr, ◌∷◌, [], ℕ, ◌+◌, ◌<◌, ◌≤◌, List, Option, None, Some}
use Rattle.std.proofs.Common.{Ok, Err, true, false, refl, option_map, nat_lt, arith}
use Rattle.csv.specs.Records.{Row, fields_of}
use Rattle.rv_trace.specs.Faults.{IsOfTextOrMemory, is_of_text}
use Rattle.rv_trace.specs.Feeds.{FeedStream, IsFeedFault, IsOver, Passes, TakesNext, and_then, feed_fault}
use Rattle.rv_trace.specs.Feeds.{nothing, records_give, row_gives, row_gives_at, rows_give, stops_at}
use Rattle.rv_trace.specs.Row.{Fields}
use Rattle.rv_trace.specs.Rows.{NoRow, TakesRow}
use Rattle.rv_trace.specs.Source.{is_header}
use Rattle.rv_trace.specs.declared.fault.FaultKind.{FaultKind}
use Rattle.rv_trace.specs.declared.fault.FaultKind.TheVariants as fault
use Rattle.rv_trace.specs.declared.feed.FeedRow.{FeedRow}

-- ---- what a record gives, by its place
header-goes : (rs ts : List Fields) (h : Fields) → rs ≡ h ∷ ts → is_header h ≡ true → records_give rs ≡ rows_give 1 ts
unfolding records_give
header-goes rs ts h e t = rw (e, t) refl

header-wrong : (rs ts : List Fields) (h : Fields) → rs ≡ h ∷ ts → is_header h ≡ false
    → records_give rs ≡ stops_at fault.Header 0
unfolding records_give
header-wrong rs ts h e t = rw (e, t) refl

header-none : (rs : List Fields) → rs ≡ [] → records_give rs ≡ stops_at fault.Header 0
unfolding records_give
header-none rs e = rw e refl

row-goes : (rs ts : List Fields) (r : Fields) (n : ℕ) → rs ≡ r ∷ ts
    → rows_give n rs ≡ and_then n (row_gives_at n r) (rows_give (n + 1) ts)
unfolding rows_give
row-goes rs ts r n e = rw e refl

rows-none : (rs : List Fields) (n : ℕ) → rs ≡ [] → rows_give n rs ≡ nothing
unfolding rows_give
rows-none rs n e = rw e refl

-- ---- what is told of it
-- the header was read
pub feed-header-taken : (old new : Option (List Fields)) (row : Row) → TakesRow old new row
    → is_header (fields_of row) ≡ true
    → Passes (option_map records_give old) (option_map (rows_give 1) new)
feed-header-taken None new row t h = tt
feed-header-taken (Some rs) None row t h = t
feed-header-taken (Some rs) (Some ts) row t h = header-goes rs ts (fields_of row) t h

-- the first record is no header
pub feed-header-other : (old new : Option (List Fields)) (row : Row) → TakesRow old new row
    → is_header (fields_of row) ≡ false
    → IsFeedFault (option_map records_give old) (feed_fault fault.Header 0)
feed-header-other None new row t h = inl refl
feed-header-other (Some rs) None row t h = absurd t
feed-header-other (Some rs) (Some ts) row t h = inl (refl, header-wrong rs ts (fields_of row) t h)

-- there is no record
pub feed-no-header : (old : Option (List Fields)) → NoRow old
    → IsFeedFault (option_map records_give old) (feed_fault fault.Header 0)
feed-no-header None t = inl refl
feed-no-header (Some rs) t = inl (refl, header-none rs t)

-- a row too many
pub feed-row-long : (old new : Option (List Fields)) (row : Row) (n : ℕ) → TakesRow old new row
    → 18446744073709551614 < n → IsFeedFault (option_map (rows_give n) old) (feed_fault fault.TooLong n)
feed-row-long None new row n t h = inl refl
feed-row-long (Some rs) None row n t h = absurd t
feed-row-long (Some rs) (Some ts) row n t h =
    let long : nat_lt 18446744073709551614 n ≡ true = grind arith in
    inl (refl, row-goes rs ts (fields_of row) n t ∙ rw long refl)

-- a row gives what it says
pub feed-row-taken : (old new : Option (List Fields)) (row : Row) (n m : ℕ) (x : FeedRow) → TakesRow old new row
    → n ≤ 18446744073709551614 → m ≡ n + 1 → row_gives (fields_of row) ≡ Ok x
    → TakesNext (option_map (rows_give n) old) (option_map (rows_give m) new) x
feed-row-taken None new row n m x t h k s = tt
feed-row-taken (Some rs) None row n m x t h k s = t
feed-row-taken (Some rs) (Some ts) row n m x t h k s =
    let short : nat_lt 18446744073709551614 n ≡ false = grind arith in
    rw k (row-goes rs ts (fields_of row) n t ∙ rw (short, s) refl)

-- a row has a fault
feed-row-fault : (old new : Option (List Fields)) (row : Row) (n : ℕ) (k : FaultKind)
    → TakesRow old new row → n ≤ 18446744073709551614 → row_gives (fields_of row) ≡ Err k → is_of_text k ≡ true
    → IsFeedFault (option_map (rows_give n) old) (feed_fault k n)
feed-row-fault None new row n k t h s own = inl own
feed-row-fault (Some rs) None row n k t h s own = absurd t
feed-row-fault (Some rs) (Some ts) row n k t h s own =
    let short : nat_lt 18446744073709551614 n ≡ false = grind arith in
    inl (own, row-goes rs ts (fields_of row) n t ∙ rw (short, s) refl)

own-memory : (k : FaultKind) → is_of_text k ≡ true → k ≡ fault.NoMemory → ⊥
own-memory k own m = let bad : false ≡ true = rw m at own in cc

outside : (s : Option FeedStream) (k : FaultKind) (n : ℕ) → k ≡ fault.NoMemory → IsFeedFault s (feed_fault k n)
outside None k n m = inr (inr m)
outside (Some s) k n m = inr (inr m)

-- the same of a row that memory may have refused
pub feed-row-refused : (old new : Option (List Fields)) (row : Row) (n : ℕ) (k : FaultKind)
    → TakesRow old new row → n ≤ 18446744073709551614
    → (k ≢ fault.NoMemory → row_gives (fields_of row) ≡ Err k) → IsOfTextOrMemory k
    → IsFeedFault (option_map (rows_give n) old) (feed_fault k n)
feed-row-refused old new row n k t h s (inl own) = feed-row-fault old new row n k t h (s (λ m. own-memory k own m)) own
feed-row-refused old new row n k t h s (inr m) = outside _ k n m

-- the source has ended
pub feed-row-none : (old : Option (List Fields)) (n : ℕ) → NoRow old → IsOver (option_map (rows_give n) old)
feed-row-none None n t = tt
feed-row-none (Some rs) n t = rows-none rs n t
