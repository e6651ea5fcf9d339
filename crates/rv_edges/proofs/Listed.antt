-- Lists with one more at the end.
use Rattle.rv_edges.proofs.Common.{common_steps, List, [], ◌∷◌, ◌++◌, Contains, refl, arith, Contains-here}
use Rattle.rv_edges.proofs.Common.{Contains-there}

-- what a list contains it still contains
pub Contains-old : {X : Type 0} (xs : List X) (y x : X) → Contains xs x → Contains (xs ++ y ∷ []) x
Contains-old xs y x h = grind (arith, common_steps)

-- and the new last element
pub Contains-last : {X : Type 0} (xs : List X) (x : X) → Contains (xs ++ x ∷ []) x
Contains-last [] x = Contains-here x [] x refl
Contains-last (z ∷ xs) x = Contains-there z (xs ++ x ∷ []) x (Contains-last xs x)
