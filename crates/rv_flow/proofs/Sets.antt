-- What sets of numbers have, after each way in which they change.
use Rattle.std.proofs.Common.{◌≡◌, ℕ, false, ◌||◌, ◌==◌, List, ◌⊎◌, ◌↔◌, inl, inr, sym, ◌∙◌, eq-eqb, eqb-true}
use Rattle.std.proofs.lemmas.Bool.{false≢true, or_cases, or_left, or_right}
use Rattle.rv_rows.specs.Bits.{Has, has_bit}

-- a set that another one joined
pub has-joined : (old more new : List ℕ) → ((j : ℕ) → has_bit new j ≡ (has_bit old j || has_bit more j)) →
    (n : ℕ) → Has new n ↔ (Has old n ⊎ Has more n)
has-joined old more new says n = (
  λ h. or_cases (has_bit old n) (has_bit more n) (sym (says n) ∙ h),
  λ h. elim h [
    | inl first ↦ says n ∙ or_left (has_bit old n) (has_bit more n) first
    | inr second ↦ says n ∙ or_right (has_bit old n) (has_bit more n) second
  ],
)

-- a copy: an empty set that it joined
pub has-copied : (old more new : List ℕ) → ((j : ℕ) → has_bit old j ≡ false) →
    ((j : ℕ) → has_bit new j ≡ (has_bit old j || has_bit more j)) → (n : ℕ) → Has new n ↔ Has more n
has-copied old more new empty says n = (
  λ h. elim ((has-joined old more new says n).0 h) [
    | inl none ↦ absurd (false≢true (sym (empty n) ∙ none))
    | inr all ↦ all
  ],
  λ h. (has-joined old more new says n).1 (inr h),
)

-- a set with the same bits
pub has-same : (row other : List ℕ) → ((j : ℕ) → has_bit row j ≡ has_bit other j) → (n : ℕ) → Has row n ↔ Has other n
has-same row other same n = (λ h. sym (same n) ∙ h, λ h. same n ∙ h)

-- a set with one number more
pub has-inserted : (old new : List ℕ) (e : ℕ) → ((j : ℕ) → has_bit new j ≡ (has_bit old j || (e == j))) → (n : ℕ) →
    Has new n ↔ (Has old n ⊎ (e ≡ n))
has-inserted old new e says n = (
  λ h. elim (or_cases (has_bit old n) (e == n) (sym (says n) ∙ h)) [
    | inl was ↦ inl was
    | inr same ↦ inr (eqb-true e n same)
  ],
  λ h. elim h [
    | inl was ↦ says n ∙ or_left (has_bit old n) (e == n) was
    | inr same ↦ says n ∙ or_right (has_bit old n) (e == n) (eq-eqb e n same)
  ],
)
