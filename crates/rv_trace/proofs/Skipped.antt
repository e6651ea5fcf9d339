-- The records behind those that were skipped.
use Rattle.std.proofs.Common.{◌≡◌, ◌∷◌, ◌+◌, ◌-◌, ◌≤◌, [], ℕ, zero, suc, List, Option, Some, None, true, false, sym}
use Rattle.std.proofs.Common.{◌∙◌, ap, add-one, drop, length, subst, arith}
use Rattle.std.proofs.lemmas.List.{length-drop}
use Rattle.std.proofs.lemmas.Option.{slice_get_past}
use Rattle.std.specs.Bool.{⊤}
use Rattle.std.specs.List.{slice_get}
use Rattle.csv.specs.Records.{Row, fields_of}
use Rattle.rv_trace.specs.Columns.{IsRecordAt}
use Rattle.rv_trace.specs.Row.{Fields}
use Rattle.rv_trace.specs.Rows.{NoRow, TakesRow}

-- of known records, those behind so many are left
abbrev pub AreBehind : ℕ → Option (List Fields) → Option (List Fields) → Type 0
AreBehind n None new = ⊤
AreBehind n (Some records) None = ⊥
AreBehind n (Some records) (Some left) = drop n records ≡ left

-- what stands first behind so many, and what stands behind that
drop-next : {X : Type 0} (n : ℕ) (xs : List X) (x : X) (rest : List X) → drop n xs ≡ x ∷ rest →
    (drop (suc n) xs ≡ rest) × (slice_get xs n ≡ Some x)
drop-next zero [] x rest is = cc
drop-next zero (y ∷ xs) x rest is = (cc, cc)
drop-next (suc n) [] x rest is = cc
drop-next (suc n) (y ∷ xs) x rest is = drop-next n xs x rest is

-- one more was skipped
pub behind-next : (n : ℕ) (old mid new : Option (List Fields)) (row : Row) → AreBehind n old mid →
    TakesRow mid new row → AreBehind (n + 1) old new
behind-next n None mid new row are takes = tt
behind-next n (Some records) None new row are takes = absurd are
behind-next n (Some records) (Some left) None row are takes = absurd takes
behind-next n (Some records) (Some left) (Some rest) row are takes =
    subst (λ m. drop m records ≡ rest) (sym (add-one n)) (drop-next n records (fields_of row) rest (are ∙ takes)).0

-- the first that is left is the record behind those
pub behind-found : (n : ℕ) (old mid new : Option (List Fields)) (row : Row) → AreBehind n old mid →
    TakesRow mid new row → IsRecordAt n old true row
behind-found n None mid new row are takes = tt
behind-found n (Some records) None new row are takes = absurd are
behind-found n (Some records) (Some left) None row are takes = absurd takes
behind-found n (Some records) (Some left) (Some rest) row are takes =
    (drop-next n records (fields_of row) rest (are ∙ takes)).1

-- where none is left, there is none behind as many or more
pub behind-none : (n place : ℕ) (old mid : Option (List Fields)) (row : Row) → AreBehind n old mid → NoRow mid →
    n ≤ place → IsRecordAt place old false row
behind-none n place None mid row are none low = tt
behind-none n place (Some records) None row are none low = absurd are
behind-none n place (Some records) (Some left) row are none low =
    let few : length records - n ≡ 0 = sym (length-drop n records) ∙ ap length (are ∙ none) in
    slice_get_past records place (omega (few, low, arith))
