-- The values that versions of words hold, as the records of their stores show them: the one of the effect, or else
-- that of the instruction.
use Rattle.std.specs.Prelude.{ℕ, ◌≡◌, ◌≢◌, ◌<◌, ◌⊎◌, ◌++◌, List, Contains, Option, Some}
use Rattle.std.specs.Option.{option_or}
use Rattle.rv_log.specs.declared.record.Performed.{Performed}
use Rattle.rv_memory.specs.Stores.{IsOrder, IsTold}
use Rattle.rv_values.specs.Issues.{AreSingle, IsOf}
use Rattle.rv_values.specs.Memory.{low}
use Rattle.rv_values.specs.declared.held.Fit.{Fit}
use Rattle.rv_values.specs.declared.held.Fit.TheVariants as fit
use Rattle.rv_values.specs.declared.held.Held.{Held}
use Rattle.rv_values.specs.declared.held.Held.TheVariants.{Open, Unshown, Value}
use Rattle.rv_values.specs.declared.issues.Issued.{Issued}

-- the two records of the store that made the version
pub record IsMade (issued : List Issued) (performed : List Performed) (address version : ℕ) : Type 0 where
  pub effect : Performed
  pub told : IsTold performed address version (Some effect)
  pub instruction : Issued
  pub retired : Contains issued instruction
  pub one : IsOf effect.hart effect.order instruction

-- a store wrote this value as the version
pub record IsWritten (issued : List Issued) (performed : List Performed) (address version value : ℕ) : Type 0 where
  pub made : IsMade issued performed address version
  pub number : ℕ
  pub shown : option_or made.effect.wdata made.instruction.wdata ≡ Some number
  pub is : value ≡ low made.instruction.word.size number

-- the version holds the value: memory does at first, or a store wrote it
abbrev pub Holds : List Issued → List Performed → (address version : ℕ) → (initial : Option ℕ) → ℕ → Type 0
Holds issued performed address version initial value =
    ((version ≡ 0) × (initial ≡ Some value)) ⊎ IsWritten issued performed address version value

-- more records may come
pub record MayGrow (issued more : List Issued) (performed later : List Performed) : Type 0 where
  pub single : AreSingle (issued ++ more)
  pub order : IsOrder (performed ++ later)

-- the version has a store of which a record has not come
pub record IsOpen (issued : List Issued) (performed : List Performed) (address version : ℕ) : Type 0 where
  pub some : 0 < version
  pub unmade : IsMade issued performed address version → ⊥

-- what is known of its value stays so, whatever records come
abbrev pub IsHeld : (issued more : List Issued) (performed later : List Performed) (address version : ℕ) → Option ℕ →
    Held → Type 0
IsHeld issued more performed later address version initial Open = IsOpen issued performed address version
IsHeld issued more performed later address version initial Unshown =
    (value : ℕ) → Holds (issued ++ more) (performed ++ later) address version initial value → ⊥
IsHeld issued more performed later address version initial (Value n) =
    Holds (issued ++ more) (performed ++ later) address version initial n ×
    ((value : ℕ) → Holds (issued ++ more) (performed ++ later) address version initial value → value ≡ n)

-- the value that was returned is the one that the version holds, where both are shown
abbrev pub Fits : List Issued → List Performed → (address version : ℕ) → (initial returned : Option ℕ) → Type 0
Fits issued performed address version initial returned =
    (value other : ℕ) → Holds issued performed address version initial value → returned ≡ Some other → value ≡ other

-- it is another one
pub record IsOther (issued : List Issued) (performed : List Performed) (address version : ℕ)
    (initial returned : Option ℕ) : Type 0 where
  pub value : ℕ
  pub held : Holds issued performed address version initial value
  pub other : ℕ
  pub is_returned : returned ≡ Some other
  pub apart : value ≢ other

abbrev pub IsFit : (issued more : List Issued) (performed later : List Performed) (address version : ℕ) →
    (initial returned : Option ℕ) → Fit → Type 0
IsFit issued more performed later address version initial returned fit.Open =
    IsOpen issued performed address version
IsFit issued more performed later address version initial returned fit.Agrees =
    Fits (issued ++ more) (performed ++ later) address version initial returned
IsFit issued more performed later address version initial returned fit.Differs =
    IsOther (issued ++ more) (performed ++ later) address version initial returned
