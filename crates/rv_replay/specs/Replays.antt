-- What a pass over a list of entries tells.
use Rattle.std.specs.Prelude.{ℕ, ◌≡◌, ◌≤◌, ◌++◌, List, ◌∷◌, length, take, ◌↔◌}
use Rattle.rv_event.specs.WellFormed.{WellFormed}
use Rattle.rv_event.specs.declared.event.Entry.{Entry}
use Rattle.rv_event.specs.declared.memory_model.MemoryModel.{MemoryModel}
use Rattle.rv_book.specs.Booked.{SomeLawful, IsMalformedOn, IsForbiddenOn}
use Rattle.rv_book.specs.Counts.{operations_of, waiting_of}
use Rattle.rv_report.specs.declared.outcome.Outcome.{Outcome}
use Rattle.rv_report.specs.declared.outcome.Outcome.TheVariants.{Allowed, Forbidden, Malformed}

-- the entries are a well formed log, and some order is lawful for it
pub record IsConsistent (model : MemoryModel) (entries : List Entry) : Type 0 where
  pub well_formed : WellFormed entries
  pub lawful : SomeLawful model entries

-- an entry of the list, where those before it and each shorter beginning are consistent
pub record Reaches (model : MemoryModel) (entries before : List Entry) (entry : Entry) : Type 0 where
  pub after : List Entry
  pub whole : entries ≡ before ++ entry ∷ after
  pub shorter : (n : ℕ) → n ≤ length before → IsConsistent model (take n entries)

-- Consistent, with its counts; or the first entry with which the list has a fault or no lawful
-- order. A fault is looked at first.
abbrev pub IsReplayed : MemoryModel → List Entry → Outcome → Type 0
IsReplayed model entries (Allowed events operations waiting) =
    IsConsistent model entries
    × (events ≡ length entries) × (operations ≡ operations_of entries) × (waiting ≡ waiting_of entries)
IsReplayed model entries (Malformed m) =
    (before : List Entry) × (entry : Entry) × Reaches model entries before entry
    × IsMalformedOn model before entry m
IsReplayed model entries (Forbidden f) =
    (before : List Entry) × (entry : Entry) × Reaches model entries before entry
    × IsForbiddenOn model before entry f

abbrev pub IsAllowed : Outcome → Type 0
IsAllowed (Allowed events operations waiting) = Unit {0}
IsAllowed (Malformed m) = ⊥
IsAllowed (Forbidden f) = ⊥

-- so consistent entries, and no others, are allowed
abbrev pub AllowedWhereConsistent : Type 0
AllowedWhereConsistent =
    (model : MemoryModel) (entries : List Entry) (outcome : Outcome) →
    IsReplayed model entries outcome → (IsAllowed outcome ↔ IsConsistent model entries)
