-- The versions of words by the values that they hold.
use Rattle.std.specs.Prelude.{ℕ, ◌≡◌, ◌≢◌, ◌∷◌, [], List, Option, Some, None}
use Rattle.std.specs.HashMap.{get}
use Rattle.rv_log.specs.declared.record.Performed.{Performed}
use Rattle.rv_memory.specs.Stores.{same_issuer as same_key}
use Rattle.rv_values.specs.Values.{Holds, IsWritten}
use Rattle.rv_values.specs.declared.index.Found.{Found}
use Rattle.rv_values.specs.declared.index.Found.TheVariants.{One, Several}
use Rattle.rv_values.specs.declared.index.Index.{Index}
use Rattle.rv_values.specs.declared.index.Written.{Written}
use Rattle.rv_values.specs.declared.issues.Issued.{Issued}

-- the store of the instruction wrote this and nothing else
pub record IsJust (performed : List Performed) (i : Issued) (w : Written) : Type 0 where
  pub written : IsWritten (i ∷ []) performed w.address w.version w.value
  pub just : (address version value : ℕ) → IsWritten (i ∷ []) performed address version value →
      (address ≡ w.address) × (version ≡ w.version) × (value ≡ w.value)

-- what the store of the instruction wrote, exactly where it wrote a value that is shown
abbrev pub IsWrittenBy : List Performed → Issued → Option Written → Type 0
IsWrittenBy performed i (Some w) = IsJust performed i w
IsWrittenBy performed i None =
    (address version value : ℕ) → IsWritten (i ∷ []) performed address version value → ⊥

-- the versions of which this holds: just one, more than one, or none
abbrev pub IsFound : (ℕ → Type 0) → Option Found → Type 0
IsFound Has (Some (One v)) = Has v × ((u : ℕ) → Has u → u ≡ v)
IsFound Has (Some Several) = (u : ℕ) × (v : ℕ) × Has u × Has v × (u ≢ v)
IsFound Has None = (u : ℕ) → Has u → ⊥

-- the versions of each word that stores wrote with each value
abbrev pub AreVersions : List Issued → List Performed → (ℕ × ℕ → Option Found) → Type 0
AreVersions issued performed found =
    (address value : ℕ) → IsFound (λ v. IsWritten issued performed address v value) (found (address, value))

abbrev pub IsIndex : List Issued → List Performed → Index → Type 0
IsIndex issued performed index = AreVersions issued performed (get same_key index.versions)

-- the versions of a word that hold a value, version 0 among them
abbrev pub IsFoundWith : List Issued → List Performed → (address : ℕ) → (initial : Option ℕ) → ℕ → Option Found → Type 0
IsFoundWith issued performed address initial value found =
    IsFound (λ v. Holds issued performed address v initial value) found
