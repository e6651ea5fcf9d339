-- The stores whose instructions retired.
use Rattle.std.specs.Prelude.{ℕ, ◌≡◌, ◌<◌, List, Contains, Option, Some, None, length, slice_index_or}
use Rattle.std.specs.List.{AllPairs}
use Rattle.rv_values.specs.declared.issues.IssueFault.{IssueFault}
use Rattle.rv_values.specs.declared.issues.IssueFault.TheVariants.{Twice, NoMemory}
use Rattle.rv_values.specs.declared.issues.Issued.{Issued}

-- the store is that of this instruction
abbrev pub IsOf : ℕ → ℕ → Issued → Type 0
IsOf hart order i = (i.hart ≡ hart) × (i.order ≡ order)

-- the store of the instruction, exactly where there is one
abbrev pub IsIssuedBy : List Issued → ℕ → ℕ → Option Issued → Type 0
IsIssuedBy issued hart order (Some i) = Contains issued i × IsOf hart order i
IsIssuedBy issued hart order None = (i : Issued) → Contains issued i → IsOf hart order i → ⊥

-- none of the stores is of this one's instruction
abbrev pub IsNew : List Issued → Issued → Type 0
IsNew issued new = (i : Issued) → Contains issued i → IsOf new.hart new.order i → ⊥

-- each instruction has one store at most
abbrev pub AreSingle : List Issued → Type 0
AreSingle issued = AllPairs (λ i j. IsOf j.hart j.order i → ⊥) issued

-- why a store is none of these
abbrev pub IsRefused : List Issued → Issued → IssueFault → Type 0
IsRefused issued new Twice = (i : Issued) × Contains issued i × IsOf new.hart new.order i
IsRefused issued new NoMemory = IsNew issued new

-- the place of the instruction's store, exactly where it has one
abbrev pub IsPlace : List Issued → ℕ → ℕ → Option ℕ → Type 0
IsPlace issued hart order (Some k) =
    (k < length issued) × ((d : Issued) → IsOf hart order (slice_index_or issued k d))
IsPlace issued hart order None = (i : Issued) → Contains issued i → IsOf hart order i → ⊥

-- the map has the place of each, under its hart and order
pub record AreIssues (place_of : ℕ × ℕ → Option ℕ) (issued : List Issued) : Type 0 where
  pub placed : (hart order : ℕ) → IsPlace issued hart order (place_of (hart, order))
  pub single : AreSingle issued
