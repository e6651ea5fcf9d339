-- A function with one value changed, and runs.
use Rattle.rv_slotcore.proofs.Common.{◌≡◌, ◌≢◌, ℕ, List, [], ◌∷◌, ◌++◌, refl, arith, common_steps, Core, put_at}
use Rattle.rv_slotcore.proofs.Common.{run, after}
use Rattle.rv_slotcore.specs.Machine.{Step}

module _ {A : Type 0} where
  -- a value after a write is the new one or an old one
  pub put_cases : (P : A → Type 0) (f : ℕ → A) (i k : ℕ) (x : A) → (k ≡ i → P x) → (k ≢ i → P (f k))
      → P (put_at f i x k)
  put_cases P f i k x same other = grind (arith, common_steps)

  -- the value that was written
  pub put_here : (f : ℕ → A) (i : ℕ) (x : A) → put_at f i x i ≡ x
  put_here f i x = put_cases (λ z. z ≡ x) f i i x (λ _. refl) (λ n. absurd (n refl))

  -- any other value
  pub put_else : (f : ℕ → A) (i k : ℕ) (x : A) → k ≢ i → put_at f i x k ≡ f k
  put_else f i k x n = put_cases (λ z. z ≡ f k) f i k x (λ e. absurd (n e)) (λ _. refl)

-- a run in two parts
pub run-append : (es fs : List Step) (c : Core) → run (es ++ fs) c ≡ run fs (run es c)
run-append [] fs c = refl
run-append (e ∷ es) fs c = run-append es fs (after c e)
