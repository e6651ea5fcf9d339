-- How counts of words and pairs grow with a log.
use Rattle.std.proofs.Common.{◌≡◌, ℕ, ◌+◌, List, [], ◌∷◌, ◌++◌, Bool, false, IsTrue, refl}
use Rattle.std.proofs.Common.{arith, count_by, if◌then◌else◌}
use Rattle.std.proofs.lemmas.Grind.{common_steps}
use Rattle.rv_event.specs.Operations.{is_memory}
use Rattle.rv_event.specs.declared.event.Event.{Event}
use Rattle.rv_coverage.specs.Counts.{pairs_of, share_word}
use Rattle.rv_coverage.specs.Shares.{is_on, is_on_by, same_place}

-- one more is counted where the predicate has it
pub count_by-push : {X : Type 0} (p : X → Bool) (xs : List X) (x : X) →
    count_by p (xs ++ x ∷ []) ≡ count_by p xs + (if p x then 1 else 0)
count_by-push p [] x = grind (arith, common_steps)
count_by-push p (y ∷ xs) x = grind (arith, common_steps, count_by-push p xs x)

-- those on a word are the own hart's and the others'
pub count-split : (e : Event) (log : List Event) → IsTrue (is_memory e.op) →
    count_by (is_on e.word) log
    ≡ count_by (is_on_by e.word e.id.hart) log + count_by (λ x. share_word x e) log
count-split e [] memory = refl
count-split e (x ∷ log) memory = grind (arith, common_steps, count-split e log memory)

-- each new operation makes a pair with each that shares its word
pub pairs_of-push : (log : List Event) (e : Event) →
    pairs_of (log ++ e ∷ []) ≡ pairs_of log + count_by (λ x. share_word x e) log
pairs_of-push [] e = refl
pairs_of-push (x ∷ log) e = grind (arith, common_steps, pairs_of-push log e, count_by-push)

-- an event that is no memory operation makes none
pub count-none : (log : List Event) (e : Event) → is_memory e.op ≡ false →
    count_by (λ x. share_word x e) log ≡ 0
count-none [] e none = refl
count-none (x ∷ log) e none = grind (arith, common_steps, count-none log e none)

-- a hart has one more on the word of its event, and nothing else changes
pub met-push : (e : Event) (log : List Event) (old new : ℕ → ℕ → ℕ) → IsTrue (is_memory e.op) →
    ((word hart : ℕ) → old word hart ≡ count_by (is_on_by word hart) log) →
    new e.word e.id.hart ≡ old e.word e.id.hart + 1 →
    ((word hart : ℕ) → same_place (e.word, e.id.hart) (word, hart) ≡ false → new word hart ≡ old word hart) →
    (word hart : ℕ) → new word hart ≡ count_by (is_on_by word hart) (log ++ e ∷ [])
met-push e log old new memory met this others word hart = grind (arith, common_steps, count_by-push, met, this, others)

-- an event that is no memory operation is counted on no word
pub met-none : (e : Event) (log : List Event) → is_memory e.op ≡ false → (word : ℕ) →
    count_by (is_on word) log ≡ count_by (is_on word) (log ++ e ∷ [])
met-none e log none word = grind (arith, common_steps, count_by-push (is_on word) log e)

-- nor of a hart
pub met-none-by : (e : Event) (log : List Event) → is_memory e.op ≡ false → (word hart : ℕ) →
    count_by (is_on_by word hart) log ≡ count_by (is_on_by word hart) (log ++ e ∷ [])
met-none-by e log none word hart = grind (arith, common_steps, count_by-push (is_on_by word hart) log e)
