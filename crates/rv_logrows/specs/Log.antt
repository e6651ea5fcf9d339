-- What the records of a log tell so far.
use Rattle.std.specs.Prelude.{ℕ, ◌≡◌, ◌≢◌, ◌<◌, ◌≤◌, ◌+◌, ◌++◌, ◌∷◌, ◌⊎◌, [], List, Contains, false, ⊤}
use Rattle.std.specs.Prelude.{Option, Some, None, if◌then◌else◌, length, slice_index_or, slice_set}
use Rattle.rv_event.specs.declared.event.Op.TheVariants as op
use Rattle.rv_log.specs.declared.record.Performed.{Performed}
use Rattle.rv_log.specs.declared.record.Retired.{Retired}
use Rattle.rv_memory.specs.Stores.{HasIssuer, IsNext}
use Rattle.rv_memory.specs.Stores as stores
use Rattle.rv_values.specs.Issues.{IsOf}
use Rattle.rv_values.specs.Memory.{Differ, IsMemory}
use Rattle.rv_values.specs.declared.issues.Issued.{Issued}
use Rattle.rv_commits.specs.Made.{made}
use Rattle.rv_commits.specs.Owns.{does_store}
use Rattle.rv_commits.specs.declared.made.Made.{Made}
use Rattle.rv_logrows.specs.Harts.{IsRetiredBy}
use Rattle.rv_logrows.specs.Stored.{IsWordOf, IsWordRefused, word_by}
use Rattle.rv_logrows.specs.declared.fault.LogFault.{LogFault}
use Rattle.rv_logrows.specs.declared.fault.LogFault.TheVariants as fault
use Rattle.rv_logrows.specs.declared.log.LogRows.{LogRows}
use Rattle.rv_logrows.specs.declared.log.StoreId.{StoreId}

-- how many instructions a hart has retired
abbrev pub retired_of : LogRows → ℕ → ℕ
retired_of s hart = slice_index_or s.before.retired hart 0

-- the store of an instruction, and those that one makes: one, or none
abbrev pub issue_of : Retired → Issued
issue_of r = record { hart = r.hart; order = r.order; word = word_by r; wdata = r.wdata }

abbrev pub issues : Retired → List Issued
issues r = if does_store r then issue_of r ∷ [] else []

-- no store of an instruction that makes none took effect
abbrev pub IsUnstored : List Performed → Retired → Type 0
IsUnstored performed r =
    does_store r ≡ false → (p : Performed) → Contains performed p → HasIssuer r.hart r.order p → ⊥

-- for each hart one more than the highest order of its stores; 0 where it has none
pub record IsPast (performed : List Performed) (past : List ℕ) : Type 0 where
  pub many : length past ≡ 16
  pub harts : (p : Performed) → Contains performed p → p.hart ≤ 15
  pub below : (p : Performed) → Contains performed p → p.order < slice_index_or past p.hart 0
  pub highest : (hart : ℕ) → (slice_index_or past hart 0 ≡ 0) ⊎
      ((p : Performed) × Contains performed p × (p.hart ≡ hart) × (p.order + 1 ≡ slice_index_or past hart 0))

-- the instructions of these stores retired, and these took effect: each whose instruction retired is one of those
pub record IsLog (issued : List Issued) (performed : List Performed) (s : LogRows) : Type 0 where
  pub memory : IsMemory issued performed s.memory
  pub matched : (p : Performed) → Contains performed p → p.order < retired_of s p.hart →
      (i : Issued) × Contains issued i × IsOf p.hart p.order i
  pub past : IsPast performed s.past

-- no instruction retired, there is no word, and no record
pub record HasNoRecords (s : LogRows) : Type 0 where
  pub retired : (hart : ℕ) → retired_of s hart ≡ 0
  pub words : s.words ≡ []
  pub records : s.before.records ≡ 0

-- the log took the instruction
pub record IsRetired (issued : List Issued) (performed : List Performed) (r : Retired) (old new : LogRows) :
    Type 0 where
  pub log : IsLog (issued ++ issues r) performed new
  pub next : r.order ≡ retired_of old r.hart
  pub retired : new.before.retired ≡ slice_set old.before.retired r.hart (r.order + 1)
  pub records : new.before.records ≡ old.before.records + 1
  pub word : ℕ
  pub is_word : IsWordOf r old.words new.words word
  pub hart : IsRetiredBy r word new.before.records old.harts.all.items new.harts.all.items

-- why the store of an instruction is refused
abbrev pub IsIssueRefused : List Issued → List Performed → Retired → LogFault → Type 0
IsIssueRefused issued performed r (fault.Differs m) =
    (p : Performed) × Contains performed p × HasIssuer r.hart r.order p × Differ (issue_of r) p m
IsIssueRefused issued performed r fault.Stored =
    (p : Performed) × Contains performed p × HasIssuer r.hart r.order p × (does_store r ≡ false) ×
    ((m : Made) × (made r ≡ Some m) × (m.op ≡ op.ScFailed))
IsIssueRefused issued performed r fault.NoSuchStore =
    (p : Performed) × Contains performed p × HasIssuer r.hart r.order p × (does_store r ≡ false)
IsIssueRefused issued performed r fault.RetiredTwice = (i : Issued) × Contains issued i × IsOf r.hart r.order i
IsIssueRefused issued performed r fault.NoMemory = ⊤
IsIssueRefused issued performed r _ = ⊥

-- a counter of 64 bits is at its end, or there are too many words
abbrev pub IsFull : Retired → LogRows → Type 0
IsFull r s =
    (18446744073709551615 ≤ retired_of s r.hart) ⊎ (18446744073709551615 ≤ s.before.records) ⊎
    IsWordRefused r s.words fault.Full

-- why an instruction is
abbrev pub IsInstructionRefused : List Issued → List Performed → Retired → LogRows → LogFault → Type 0
IsInstructionRefused issued performed r s fault.Hart = 15 < r.hart
IsInstructionRefused issued performed r s (fault.Order count) = (count ≡ retired_of s r.hart) × (r.order ≢ count)
IsInstructionRefused issued performed r s fault.TooManyRows = ⊤
IsInstructionRefused issued performed r s fault.Full = IsFull r s
IsInstructionRefused issued performed r s (fault.Misaligned word) =
    IsWordRefused r s.words (fault.Misaligned word)
IsInstructionRefused issued performed r s (fault.MixedSizes word other) =
    IsWordRefused r s.words (fault.MixedSizes word other)
IsInstructionRefused issued performed r s f = IsIssueRefused issued performed r f

-- the log took the store's effect
pub record IsPerformed (issued : List Issued) (performed : List Performed) (p : Performed) (old new : LogRows) :
    Type 0 where
  pub log : IsLog issued (performed ++ p ∷ []) new
  pub next : IsNext performed p
  pub retired : new.before.retired ≡ old.before.retired
  pub records : new.before.records ≡ old.before.records + 1
  pub words : new.words ≡ old.words
  pub harts : new.harts ≡ old.harts

-- a store that took effect and whose instruction has not retired, exactly where there is one
abbrev pub IsUnretired : List Performed → LogRows → Option StoreId → Type 0
IsUnretired performed s (Some id) =
    (p : Performed) × Contains performed p × HasIssuer id.hart id.order p × (retired_of s p.hart ≤ p.order)
IsUnretired performed s None = (p : Performed) → Contains performed p → p.order < retired_of s p.hart

-- a store whose instruction retired and which has not taken effect, exactly where there is one
abbrev pub IsUnperformed : List Issued → List Performed → Option StoreId → Type 0
IsUnperformed issued performed (Some id) =
    ((i : Issued) × Contains issued i × IsOf id.hart id.order i) ×
    ((p : Performed) → Contains performed p → HasIssuer id.hart id.order p → ⊥)
IsUnperformed issued performed None =
    (i : Issued) → Contains issued i → (p : Performed) × Contains performed p × HasIssuer i.hart i.order p

-- why it is refused
abbrev pub IsEffectRefused : List Issued → List Performed → Performed → LogRows → LogFault → Type 0
IsEffectRefused issued performed p s fault.Hart = 15 < p.hart
IsEffectRefused issued performed p s fault.NoSuchStore =
    (p.order < retired_of s p.hart) × ((i : Issued) → Contains issued i → IsOf p.hart p.order i → ⊥)
IsEffectRefused issued performed p s (fault.Differs m) =
    (i : Issued) × Contains issued i × IsOf p.hart p.order i × Differ i p m
IsEffectRefused issued performed p s (fault.Store f) = stores.IsRefused performed p f
IsEffectRefused issued performed p s fault.Full =
    (18446744073709551615 ≤ p.order) ⊎ (18446744073709551615 ≤ s.before.records)
IsEffectRefused issued performed p s fault.NoMemory = ⊤
IsEffectRefused issued performed p s _ = ⊥
