-- A history whose last entry is taken off again, and refusals of it.
use Rattle.rv_book.proofs.Common.{common_steps, ◌≡◌, ℕ, List, [], ◌∷◌, ◌++◌, refl, arith, Result, Ok, Err, IfOk}
use Rattle.rv_book.proofs.Common.{OnErr, Entry, Id, with_entry, Kept, Past, Around, IsAdded, IsRefused, Arranged}
use Rattle.rv_book.proofs.Common.{Added, Taken, Refused}

-- the history is as it was, and the entry that was taken off is the one that was added
pub record IsBack (was now : Past) (x y : Entry) : Type 0 where
  pub history : now ≡ was
  pub entry : y ≡ x

-- an entry that is added and taken off again leaves the history as it was
pub back :
    (was pushed now : Past) (x y : Entry) (around : Around) → pushed ≡ with_entry was x around →
    now.model ≡ pushed.model → pushed.log ≡ now.log ++ y ∷ [] →
    ((front : List Kept) (k : Kept) → pushed.kept ≡ front ++ k ∷ [] → now.kept ≡ front) → IsBack was now x y
back was pushed now x y around grown model log popped = grind (arith, common_steps)

-- an arrangement by its parts
abbrev pub arranged_of : Past → List (List ℕ) → List ℕ → List Id → Arranged
arranged_of past edges ranks ids = record {
  model = past.model;
  log = past.log;
  history = past.kept;
  edges = edges;
  ranks = ranks;
  ids = ids;
}

-- equal parts make equal arrangements
pub arranged_same :
    {past past' : Past} {edges edges' : List (List ℕ)} {ranks ranks' : List ℕ} {ids ids' : List Id} → past ≡ past' →
    edges ≡ edges' → ranks ≡ ranks' → ids ≡ ids' → arranged_of past edges ranks ids ≡ arranged_of past'
    edges' ranks' ids'
arranged_same p e r n = λ i. arranged_of (p i) (e i) (r i) (n i)

refused : (v : Arranged) (x : Entry) (a : Added) →
    IsRefused (record { model = v.model; log = v.log; kept = v.history }) x a → IsAdded v v x a
refused v x Taken told = absurd told
refused v x (Refused evidence c) told = (refl, told.0, told.1, told.2)

-- a refusal by the history is one by the arrangement, where nothing changed
pub added_refused :
    (now v : Arranged) (x y : Entry) {E : Type 0} → v ≡ now → y ≡ x → (r : Result Added E) →
    IfOk r (IsRefused (record { model = v.model; log = v.log; kept = v.history }) y) → IfOk r (IsAdded now v x)
added_refused now v x y same entry r told = grind (arith, common_steps)

-- what always holds holds on an error
pub OnErr-always : {A E : Type 0} {P : Type 0} (r : Result A E) → P → OnErr r P
OnErr-always (Ok a) p = tt
OnErr-always (Err e) p = p
