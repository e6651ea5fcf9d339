-- The last store of a hart to a word, among its instructions.
use Rattle.std.specs.Prelude.{ℕ, ◌≡◌, ◌++◌, ◌∷◌, List, Contains, Bool, false, Option, Some, None, IsTrue, nat_eq}
use Rattle.std.specs.HashMap.{get}
use Rattle.rv_event.specs.Operations.{is_store}
use Rattle.rv_log.specs.declared.record.Retired.{Retired}
use Rattle.rv_commits.specs.Made.{made}
use Rattle.rv_commits.specs.declared.made.Made.{Made}
use Rattle.rv_commits.specs.declared.owns.Owns.{Owns}

-- what it makes is a store
abbrev pub stores_by : Option Made → Bool
stores_by (Some m) = is_store m.op
stores_by None = false

abbrev pub does_store : Retired → Bool
does_store r = stores_by (made r)

-- the instruction stores to the word that begins at the address
abbrev pub StoresTo : ℕ → Retired → Type 0
StoresTo address r = IsTrue (does_store r) × (r.address ≡ address)

-- the store of this order is the last to the word
pub record IsLast (done : List Retired) (address order : ℕ) : Type 0 where
  pub before : List Retired
  pub store : Retired
  pub after : List Retired
  pub is : done ≡ before ++ store ∷ after
  pub stores : StoresTo address store
  pub at : order ≡ store.order
  pub none_later : (r : Retired) → Contains after r → StoresTo address r → ⊥

-- exactly where there is one
abbrev pub IsLastStore : List Retired → ℕ → Option ℕ → Type 0
IsLastStore done address (Some order) = IsLast done address order
IsLastStore done address None = (r : Retired) → Contains done r → StoresTo address r → ⊥

-- so it is for each word
abbrev pub AreOwns : List Retired → Owns → Type 0
AreOwns done owns = (address : ℕ) → IsLastStore done address (get nat_eq owns.lasts address)
