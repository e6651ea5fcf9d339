-- The carriers that an event is behind, as a set of their numbers.
use Rattle.std.specs.Prelude.{ℕ, ◌≡◌, ◌<◌, ◌↔◌, ◌⊎◌, List, Any}
use Rattle.rv_rows.specs.Bits.{Has}
use Rattle.rv_event.specs.Log.{Between}
use Rattle.rv_event.specs.Operations.{IsStore, Returns}
use Rattle.rv_event.specs.Relations.{Behind, IsCarrier, Lists}
use Rattle.rv_event.specs.declared.event.Dep.{Dep}
use Rattle.rv_event.specs.declared.event.DepKind.{DepKind}
use Rattle.rv_event.specs.declared.event.DepKind.TheVariants.{Addr, DataOf}
use Rattle.rv_event.specs.declared.event.Event.{Event}

-- number n of a's hart is a carrier's that a is behind
abbrev pub IsCarrying : List Event → Event → ℕ → Type 0
IsCarrying log a n = Any (λ c. (c.id.hart ≡ a.id.hart) × (c.id.seq ≡ n) × Behind log c a) log

-- the set has just these numbers
abbrev pub AreCarrying : List Event → Event → List ℕ → Type 0
AreCarrying log a row = (n : ℕ) → Has row n ↔ IsCarrying log a n

-- it has no others
abbrev pub IsSound : List Event → Event → List ℕ → Type 0
IsSound log a row = (n : ℕ) → Has row n → IsCarrying log a n

-- the dependency is of this kind, on an earlier event with a number of the set
abbrev pub IsMarked : DepKind → Event → List ℕ → Dep → Type 0
IsMarked kind e row d = (d.kind ≡ kind) × (d.seq < e.id.seq) × (d.seq < 4096) × Has row d.seq

-- e lists such a dependency
abbrev pub ListsMarked : DepKind → Event → List ℕ → Type 0
ListsMarked kind e row = Any (IsMarked kind e row) e.deps

-- e lists a, or is of a's hart and lists a number of the set
abbrev pub DependsBy : DepKind → Event → Event → List ℕ → Type 0
DependsBy kind e a row = Lists kind e a ⊎ ((e.id.hart ≡ a.id.hart) × ListsMarked kind e row)

-- c is a carrier of a's hart that lists a, or a number of the set
abbrev pub Carries : Event → Event → List ℕ → Type 0
Carries c a row = IsCarrier c × (c.id.hart ≡ a.id.hart) × DependsBy DataOf c a row

-- m is a store between a and b whose address or data depends on a by the set, and b returns what m wrote
pub record IsDependentWriteBy (a b : Event) (row : List ℕ) (m : Event) : Type 0 where
  pub between : Between a m b
  pub store : IsStore m
  pub returns : Returns b m
  pub depends : DependsBy Addr m a row ⊎ DependsBy DataOf m a row
