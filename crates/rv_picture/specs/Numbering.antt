-- Texts one behind another, each with its number.
use Rattle.std.specs.Prelude.{ℕ, ◌+◌, List, [], ◌∷◌}
use Rattle.rv_event.specs.Texts.{◌⋯◌}

-- the text of each, by its number, from a number on
unfoldable pub numbered : {A : Type 0} → (ℕ → A → List ℕ) → ℕ → List A → List ℕ
numbered f n [] = []
numbered f n (x ∷ xs) = f n x ⋯ numbered f (n + 1) xs
