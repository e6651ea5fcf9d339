-- The two records of a store: that of its instruction, and that of its effect.
use Rattle.std.specs.Prelude.{ℕ, ◌≡◌, ◌≢◌, ◌%◌, ◌==◌, if◌then◌else◌, List, Contains, Option, Some, None, ⊤}
use Rattle.rv_log.specs.declared.record.Performed.{Performed}
use Rattle.rv_memory.specs.Stores.{AreStores, HasIssuer}
use Rattle.rv_memory.specs.Stores as stores
use Rattle.rv_values.specs.Issues.{AreSingle, IsOf}
use Rattle.rv_values.specs.declared.issues.Issued.{Issued}
use Rattle.rv_values.specs.declared.memory.Memory.{Memory}
use Rattle.rv_values.specs.declared.memory.MemoryFault.{MemoryFault}
use Rattle.rv_values.specs.declared.memory.MemoryFault.TheVariants.{Differs, RetiredTwice, Store, NoMemory}
use Rattle.rv_values.specs.declared.memory.Mismatch.{Mismatch}
use Rattle.rv_values.specs.declared.memory.Mismatch.TheVariants.{Address, Value}

-- the low bytes of a number that an access of this size has: of 8 bytes all
abbrev pub low : ℕ → ℕ → ℕ
low size n =
    if size == 1 then n % 256
    else if size == 2 then n % 65536
    else if size == 4 then n % 4294967296
    else n

-- the records tell the store alike: its address, and what memory holds after it where both show that
pub record Agree (i : Issued) (p : Performed) : Type 0 where
  pub address : i.word.address ≡ p.address
  pub value : (a b : ℕ) → i.wdata ≡ Some a → p.wdata ≡ Some b → low i.word.size a ≡ low i.word.size b

-- what they show differently
pub record IsShown (i : Issued) (p : Performed) (first second : ℕ) : Type 0 where
  pub retired : ℕ
  pub of_retired : i.wdata ≡ Some retired
  pub performed : ℕ
  pub of_performed : p.wdata ≡ Some performed
  pub is_first : first ≡ low i.word.size retired
  pub is_second : second ≡ low i.word.size performed
  pub apart : first ≢ second

-- how they differ
abbrev pub Differ : Issued → Performed → Mismatch → Type 0
Differ i p (Address first second) =
    (first ≡ i.word.address) × (second ≡ p.address) × (first ≢ second)
Differ i p (Value first second) = (i.word.address ≡ p.address) × IsShown i p first second

-- exactly where they do
abbrev pub IsMismatch : Issued → Performed → Option Mismatch → Type 0
IsMismatch i p (Some m) = Differ i p m
IsMismatch i p None = Agree i p

-- the stores of these instructions, of which these took effect; the two records of a store tell it alike
pub record IsMemory (issued : List Issued) (performed : List Performed) (m : Memory) : Type 0 where
  pub stores : AreStores performed m.stores
  pub issues : m.issues ≡ issued
  pub single : AreSingle issued
  pub agree : (i : Issued) (p : Performed) → Contains issued i → Contains performed p →
      IsOf p.hart p.order i → Agree i p

-- why the store of an instruction is refused
abbrev pub IsIssueRefused : List Issued → List Performed → Issued → MemoryFault → Type 0
IsIssueRefused issued performed new (Differs m) =
    (p : Performed) × Contains performed p × HasIssuer new.hart new.order p × Differ new p m
IsIssueRefused issued performed new RetiredTwice = (i : Issued) × Contains issued i × IsOf new.hart new.order i
IsIssueRefused issued performed new (Store fault) = ⊥
IsIssueRefused issued performed new NoMemory = ⊤

-- why one that took effect is
abbrev pub IsPerformRefused : List Issued → List Performed → Performed → MemoryFault → Type 0
IsPerformRefused issued performed new (Differs m) =
    (i : Issued) × Contains issued i × IsOf new.hart new.order i × Differ i new m
IsPerformRefused issued performed new RetiredTwice = ⊥
IsPerformRefused issued performed new (Store fault) = stores.IsRefused performed new fault
IsPerformRefused issued performed new NoMemory = ⊥
