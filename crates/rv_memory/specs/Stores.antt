-- The order in which stores took effect, and the versions of words from it.
use Rattle.std.specs.Prelude.{ℕ, ◌≡◌, ◌≢◌, ◌<◌, ◌≤◌, ◌+◌, ◌&&◌, ◌==◌, ◌⊎◌, ◌++◌, ◌∷◌, [], List, Contains, length}
use Rattle.std.specs.Prelude.{Bool, Option, Some, None, slice_index_or, nat_eq, ⊤, ◌-◌, map, Vec}
use Rattle.std.specs.List.{AllPairs, filter}
use Rattle.std.specs.List.Sorted.{IsPartitionPoint}
use Rattle.std.specs.Global.{Global}
use Rattle.std.specs.Map.{lookup}
use Rattle.rv_log.specs.declared.record.Performed.{Performed}
use Rattle.rv_memory.specs.declared.stores.Effect.{Effect}
use Rattle.rv_memory.specs.declared.stores.StoreFault.{StoreFault}
use Rattle.rv_memory.specs.declared.stores.StoreFault.TheVariants.{TimeGoesBack, Twice, SameTime, Full, NoMemory}

-- the stores to the word that begins at the address
abbrev pub of_word : ℕ → List Performed → List Performed
of_word address log = filter (λ p. p.address == address) log

-- they are of one instruction
abbrev pub HasIssuer : ℕ → ℕ → Performed → Type 0
HasIssuer hart order p = (p.hart ≡ hart) × (p.order ≡ order)

-- stores may take effect in this order: times don't go back, each instruction's does once, and two of a word never
-- at one time
pub record IsOrder (log : List Performed) : Type 0 where
  pub ascending : AllPairs (λ q p. q.time ≤ p.time) log
  pub once : AllPairs (λ q p. HasIssuer q.hart q.order p → ⊥) log
  pub apart : AllPairs (λ q p. q.address ≡ p.address → q.time ≢ p.time) log

-- the store may come next
pub record IsNext (log : List Performed) (p : Performed) : Type 0 where
  pub later : (q : Performed) → Contains log q → q.time ≤ p.time
  pub once : (q : Performed) → Contains log q → HasIssuer p.hart p.order q → ⊥
  pub apart : (q : Performed) → Contains log q → q.address ≡ p.address → q.time ≢ p.time

-- the instruction's store took effect at this time, as the store of its word that makes this version
pub record IsEffect (log : List Performed) (hart order : ℕ) (effect : Effect) : Type 0 where
  pub before : List Performed
  pub store : Performed
  pub after : List Performed
  pub is : log ≡ before ++ store ∷ after
  pub issuer : HasIssuer hart order store
  pub address : effect.address ≡ store.address
  pub version : effect.version ≡ length (of_word store.address before) + 1
  pub time : effect.time ≡ store.time

-- the store of the instruction, exactly where it took effect
abbrev pub IsPerformedBy : List Performed → ℕ → ℕ → Option Performed → Type 0
IsPerformedBy log hart order (Some p) = Contains log p × HasIssuer hart order p
IsPerformedBy log hart order None = (p : Performed) → Contains log p → HasIssuer hart order p → ⊥

-- the effect of the instruction's store, exactly where it has one
abbrev pub IsEffectOf : List Performed → ℕ → ℕ → Option Effect → Type 0
IsEffectOf log hart order (Some effect) = IsEffect log hart order effect
IsEffectOf log hart order None = (p : Performed) → Contains log p → HasIssuer hart order p → ⊥

-- so many stores to the word had taken effect by the time, and the others came later
abbrev pub IsVersionAt : List Performed → ℕ → ℕ → ℕ → Type 0
IsVersionAt log address time n = IsPartitionPoint (λ p. p.time ≤ time) (λ p. time < p.time) (of_word address log) n

-- the store of a version of the word, exactly where there is one
abbrev pub IsTold : List Performed → ℕ → ℕ → Option Performed → Type 0
IsTold log address version (Some p) =
    (0 < version) × (version ≤ length (of_word address log)) ×
    (slice_index_or (of_word address log) (version - 1) p ≡ p)
IsTold log address version None = (version ≡ 0) ⊎ (length (of_word address log) < version)

-- the last store to the word, exactly where there is one
abbrev pub IsLastOf : List Performed → ℕ → Option Performed → Type 0
IsLastOf log address (Some p) =
    Contains log p × (p.address ≡ address) ×
    ((q : Performed) → Contains log q → q.address ≡ address → q.time ≤ p.time)
IsLastOf log address None = (q : Performed) → Contains log q → q.address ≡ address → ⊥

-- the time of the last store; 0 where there is none
pub record IsLast (log : List Performed) (time : ℕ) : Type 0 where
  pub highest : (p : Performed) → Contains log p → p.time ≤ time
  pub some : (time ≡ 0) ⊎ ((p : Performed) × Contains log p × (p.time ≡ time))

-- a store to the word took effect at the time
pub record IsWrittenAt (log : List Performed) (address time : ℕ) : Type 0 where
  pub store : Performed
  pub of_log : Contains log store
  pub word : store.address ≡ address
  pub at : store.time ≡ time

-- why a store may not come next
abbrev pub IsRefused : List Performed → Performed → StoreFault → Type 0
IsRefused log p (TimeGoesBack time) = (p.time < time) × ((q : Performed) × Contains log q × (q.time ≡ time))
IsRefused log p Twice = (q : Performed) × Contains log q × HasIssuer p.hart p.order q
IsRefused log p SameTime = IsWrittenAt log p.address p.time
IsRefused log p Full = 4294967294 ≤ length (of_word p.address log)
IsRefused log p NoMemory = ⊤

-- the same hart's instruction
abbrev pub same_issuer : ℕ × ℕ → ℕ × ℕ → Bool
same_issuer x y = nat_eq x.0 y.0 && nat_eq x.1 y.1

-- What is kept of stores: the place of each word by its address, its stores at that place, the effect of an
-- instruction's store by its hart and order, and the time of the last one.
pub record Kept : Type 0 where
  pub places : List (ℕ × ℕ)
  pub words : List (List Performed)
  pub effects : List ((ℕ × ℕ) × Effect)
  pub latest : ℕ

-- the stores at a word's place
abbrev pub at_place : List (List Performed) → Option ℕ → List Performed
at_place words (Some k) = slice_index_or words k []
at_place words None = []

-- the stores that are kept of a word, and the effect that is kept of an instruction's
abbrev pub kept_of : Kept → ℕ → List Performed
kept_of kept address = at_place kept.words (lookup (nat_eq address) kept.places)

abbrev pub effect_kept : Kept → ℕ → ℕ → Option Effect
effect_kept kept hart order = lookup (same_issuer (hart, order)) kept.effects

-- the lists of vectors
abbrev pub lists : List (Vec Performed Global) → List (List Performed)
lists words = map (λ w. w.items) words

-- what is kept is that of these stores
pub record AreStores (log : List Performed) (kept : Kept) : Type 0 where
  pub order : IsOrder log
  pub words : (address : ℕ) → kept_of kept address ≡ of_word address log
  pub effects : (hart order : ℕ) → IsEffectOf log hart order (effect_kept kept hart order)
  pub last : IsLast log kept.latest
  pub few : (address : ℕ) → length (of_word address log) ≤ 4294967294

-- each word has a place of its own
pub record AreNumbers (place_of : ℕ → Option ℕ) (words : List (List Performed)) : Type 0 where
  pub known : (address k : ℕ) → place_of address ≡ Some k → k < length words
  pub apart : (address other k : ℕ) → place_of address ≡ Some k → place_of other ≡ Some k → address ≡ other
