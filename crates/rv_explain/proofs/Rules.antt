-- What a rule stands on, at its number.
use Rattle.std.proofs.lemmas.Grind.{common_steps}
use Rattle.std.proofs.Common.{◌≡◌, ◌↔◌, ℕ, Bool, List, IsTrue, arith}
use Rattle.rv_event.specs.Preserved.{IsDependentWrite}
use Rattle.rv_event.specs.declared.event.Event.{Event}
use Rattle.rv_explain.specs.Witnesses.{IsDependentAddress, IsDependentBranch, IsFence, IsRuleWitness}
use Rattle.rv_explain.specs.Witnesses.{fence, dependent_branch, dependent_write, dependent_address}

-- a test of what a rule stands on is one at its number
at_number : {C : Type 0} (log : List Event) (a b m : Event) (n k : ℕ) (r : Bool) → k ≡ n →
    (C → IsRuleWitness log a b m n) → (IsRuleWitness log a b m n → C) → IsTrue r ↔ C →
    IsTrue r ↔ IsRuleWitness log a b m k
at_number log a b m n k r e into out test = grind (arith, common_steps)

fence_out : (log : List Event) (a b m : Event) → IsRuleWitness log a b m 4 → IsFence a b m
fence_out log a b m (fence h) = h

-- rule 4
pub fence_at : (log : List Event) (a b m : Event) (k : ℕ) (r : Bool) → k ≡ 4 → IsTrue r ↔ IsFence a b m →
    IsTrue r ↔ IsRuleWitness log a b m k
fence_at log a b m k r e test = at_number log a b m 4 k r e fence (fence_out log a b m) test

branch_out : (log : List Event) (a b m : Event) → IsRuleWitness log a b m 11 → IsDependentBranch log a b m
branch_out log a b m (dependent_branch h) = h

-- rule 11
pub branch_at : (log : List Event) (a b m : Event) (k : ℕ) (r : Bool) → k ≡ 11 →
    IsTrue r ↔ IsDependentBranch log a b m → IsTrue r ↔ IsRuleWitness log a b m k
branch_at log a b m k r e test = at_number log a b m 11 k r e dependent_branch (branch_out log a b m) test

write_out : (log : List Event) (a b m : Event) → IsRuleWitness log a b m 12 → IsDependentWrite log a b m
write_out log a b m (dependent_write h) = h

-- rule 12
pub write_at : (log : List Event) (a b m : Event) (k : ℕ) (r : Bool) → k ≡ 12 →
    IsTrue r ↔ IsDependentWrite log a b m → IsTrue r ↔ IsRuleWitness log a b m k
write_at log a b m k r e test = at_number log a b m 12 k r e dependent_write (write_out log a b m) test

address_out : (log : List Event) (a b m : Event) → IsRuleWitness log a b m 13 → IsDependentAddress log a b m
address_out log a b m (dependent_address h) = h

-- rule 13
pub address_at : (log : List Event) (a b m : Event) (k : ℕ) (r : Bool) → k ≡ 13 →
    IsTrue r ↔ IsDependentAddress log a b m → IsTrue r ↔ IsRuleWitness log a b m k
address_at log a b m k r e test = at_number log a b m 13 k r e dependent_address (address_out log a b m) test
