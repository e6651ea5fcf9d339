-- A range of a list, moved to its start, with a block behind it.
use Rattle.std.proofs.Common.{◌≡◌, ℕ, ◌+◌, ◌-◌, ◌≤◌, ◌++◌, List, length, take, drop, slice_range, ap, ap₂, ◌∙◌, arith}
use Rattle.std.proofs.Common.{length-drop}
use Rattle.std.specs.List.{copy_within}
use Rattle.std.proofs.Math.Seq.{paste, take-length}
use Rattle.std.proofs.lemmas.List.Edits.{take-paste, length-paste}

-- what was moved is what it was
moved : (xs : List ℕ) (start end : ℕ) → start ≤ end → end ≤ length xs
    → take (end - start) (copy_within xs start end 0) ≡ slice_range xs start end
moved xs start end ordered within =
    let count = end - start in
    let enough : count ≤ length (drop start xs) = omega (arith, length-drop start xs) in
    let here : count ≡ 0 + count = omega arith in
    ap (λ k. take k (copy_within xs start end 0)) here
    ∙ take-paste xs 0 (drop start xs) count (omega arith) enough

-- behind it stands the block
pub appended : (xs block : List ℕ) (start end : ℕ) → start ≤ end → end ≤ length xs
    → slice_range (paste (copy_within xs start end 0) (end - start) block (length block)) 0 (end - start + length block)
    ≡ slice_range xs start end ++ block
appended xs block start end ordered within =
    let count = end - start in
    let pasted = paste (copy_within xs start end 0) count block (length block) in
    let enough : count ≤ length (drop start xs) = omega (arith, length-drop start xs) in
    let long = length-paste xs 0 (drop start xs) count (omega arith) enough in
    let whole : count + length block - 0 ≡ count + length block = omega arith in
    ap (λ k. take k pasted) whole
    ∙ take-paste (copy_within xs start end 0) count block (length block) (omega (arith, long)) (omega arith)
    ∙ ap₂ (λ a b. a ++ b) (moved xs start end ordered within) (take-length block)
