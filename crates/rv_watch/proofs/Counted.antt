-- Counts that stop at a greatest number.
use Rattle.std.proofs.Common.{arith, ◌≡◌, ◌∙◌, ◌+◌, ◌++◌, ◌∷◌, [], ap, cond, if◌then◌else◌, length, List, min, sym, ℕ}
use Rattle.std.proofs.lemmas.List.{length_push}
use Rattle.std.proofs.lemmas.List.Sums.{sum_by_push}
use Rattle.rv_book.specs.Counts.{operations_of}
use Rattle.rv_event.specs.Operations.{is_memory}
use Rattle.rv_event.specs.declared.event.Entry.{Entry}

-- a count that went up stands for a number that went up as much
more : (old n k m : ℕ) → old ≡ min n m → min (old + k) m ≡ min (n + k) m
more old n k m is = omega (arith, is)

-- one entry more
pub events-more : (old m : ℕ) (log : List Entry) (x : Entry) → old ≡ min (length log) m →
    min (old + 1) m ≡ min (length (log ++ x ∷ [])) m
events-more old m log x is =
    more old (length log) 1 m is ∙ ap (λ (n : ℕ). min n m) (sym (length_push log x))

-- and one operation more, where it is one
pub operations-more : (old m : ℕ) (log : List Entry) (x : Entry) → old ≡ min (operations_of log) m →
    min (old + (if is_memory x.event.op then 1 else 0)) m ≡ min (operations_of (log ++ x ∷ [])) m
operations-more old m log x is =
    more old (operations_of log) (if is_memory x.event.op then 1 else 0) m is
    ∙ ap (λ (n : ℕ). min n m) (sym (sum_by_push (λ (y : Entry). cond (is_memory y.event.op) 1 0) log x))
