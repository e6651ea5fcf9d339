-- Ids and rules at the places of a command's arguments.
use Rattle.rv_cli.proofs.Common.{common_steps, rules, ◌≡◌, ◌<◌, ◌&&◌, zero, suc, ℕ, Bool, true, false, not, List}
use Rattle.rv_cli.proofs.Common.{[], ◌∷◌, length, refl, ap, arith, slice_index_or, bytes_eq, args_of, Rule}
use Rattle.rv_cli.proofs.Common.{rule_of, rules_of, Arg, Command}
use Rattle.clap.specs.Walk.{Text}

-- no id of the list is this one
unfoldable pub has_none : Text → List Text → Bool
has_none id [] = true
has_none id (x ∷ xs) = not (bytes_eq x id) && has_none id xs

-- no id of the list but the one at place k is this one
unfoldable pub has_one : Text → ℕ → List Text → Bool
has_one id k [] = true
has_one id zero (x ∷ xs) = has_none id xs
has_one id (suc k) (x ∷ xs) = not (bytes_eq x id) && has_one id k xs

none_is : (id : Text) (xs : List Text) (j : ℕ) (d : Text) → has_none id xs ≡ true → j < length xs
    → bytes_eq (slice_index_or xs j d) id ≡ true → ⊥
unfolding has_none
none_is id [] j d h lt same = absurd (omega arith)
none_is id (x ∷ xs) zero d h lt same = let bad : false ≡ true = rw same at h in cc
none_is id (x ∷ xs) (suc j) d h lt same = go (bytes_eq x id) h (λ e. none_is id xs j d e (omega arith) same)
  where
    go : (b : Bool) → (not b && has_none id xs) ≡ true → (has_none id xs ≡ true → ⊥) → ⊥
    go true e rest = cc
    go false e rest = rest e

-- where the id stands, it stands at k
pub sole_place : (id : Text) (k : ℕ) (xs : List Text) (j : ℕ) (d : Text) → has_one id k xs ≡ true → j < length xs
    → bytes_eq (slice_index_or xs j d) id ≡ true → j ≡ k
unfolding has_one
sole_place id k [] j d h lt same = absurd (omega arith)
sole_place id zero (x ∷ xs) zero d h lt same = refl
sole_place id zero (x ∷ xs) (suc j) d h lt same = absurd (none_is id xs j d h (omega arith) same)
sole_place id (suc k) (x ∷ xs) zero d h lt same = let bad : false ≡ true = rw same at h in cc
sole_place id (suc k) (x ∷ xs) (suc j) d h lt same =
    go (bytes_eq x id) h (λ e. sole_place id k xs j d e (omega arith) same)
  where
    go : (b : Bool) → (not b && has_one id k xs) ≡ true → (has_one id k xs ≡ true → j ≡ k) → suc j ≡ suc k
    go true e rest = cc
    go false e rest = ap suc (rest e)

-- the rule of the argument at a place
pub rule_at : (c : Command) (rules : List Rule) (k : ℕ) (d : Arg) (r : Rule) → rules_of c ≡ rules
    → k < length (args_of c) → rule_of (slice_index_or (args_of c) k d) ≡ slice_index_or rules k r
rule_at c rules k d r same lt = grind (arith, common_steps)
