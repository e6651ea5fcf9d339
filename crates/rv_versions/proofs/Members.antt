-- What lists have that others make up.
use Rattle.rv_versions.proofs.Common.{ℕ, ◌<◌, List, [], ◌∷◌, length, get_or, Contains, zero, suc, ◌⊎◌}
use Rattle.rv_versions.proofs.Common.{inl, inr, arith, zero-lt-suc, suc-le-suc, le_of_suc-le-suc, flat_map}
use Rattle.rv_versions.proofs.Common.{Contains-append_left, Contains-append_right, Contains-append_cases}
pub use Rattle.rv_event.proofs.Names.{Contains-map, Contains-mapped, Contains-none}

-- what a list of pieces has is in one of the pieces
pub Contains-flat : {X A : Type 0} (f : X → List A) (d : X) (xs : List X) (a : A) → Contains (flat_map f xs) a →
    (k : ℕ) × (k < length xs) × Contains (f (get_or xs k d)) a
Contains-flat f d [] a c = absurd (Contains-none a c)
Contains-flat {X} {A} f d (x ∷ xs) a c = go (Contains-append_cases (f x) (flat_map f xs) a c) (Contains-flat f d xs a)
  where
    go : Contains (f x) a ⊎ Contains (flat_map f xs) a →
        (Contains (flat_map f xs) a → (k : ℕ) × (k < length xs) × Contains (f (get_or xs k d)) a) →
        (k : ℕ) × (k < length (x ∷ xs)) × Contains (f (get_or (x ∷ xs) k d)) a
    go (inl here) again = (0, zero-lt-suc (length xs), here)
    go (inr there) again = let r = again there in (suc r.0, suc-le-suc r.1, r.2)

-- what one of the lists contains they contain together
pub Contains-in_flat : {X A : Type 0} (f : X → List A) (d : X) (xs : List X) (a : A) (k : ℕ) → k < length xs →
    Contains (f (get_or xs k d)) a → Contains (flat_map f xs) a
Contains-in_flat f d [] a k l c = absurd (omega arith)
Contains-in_flat f d (x ∷ xs) a zero l c = Contains-append_left (f x) (flat_map f xs) a c
Contains-in_flat f d (x ∷ xs) a (suc k) l c =
    Contains-append_right (f x) (flat_map f xs) a (Contains-in_flat f d xs a k (le_of_suc-le-suc l) c)
