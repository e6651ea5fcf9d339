-- Accesses to words, by word and version.
use Rattle.std.specs.Prelude.{ℕ, ◌≡◌, ◌≢◌, ◌<◌, ◌≤◌, ◌↔◌, List, Contains, AllPairs, Option, Some, None}
use Rattle.std.specs.List.Sorted.{IsPartitionPoint}
use Rattle.rv_event.specs.declared.event.Id.{Id}
use Rattle.rv_versions.specs.declared.accesses.Access.{Access}

-- the access of an event to a version of a word
abbrev pub access : ℕ → ℕ → Id → Access
access word version i = record { word = word; version = version; hart = i.hart; seq = i.seq }

-- the event that made it
abbrev pub id_of : Access → Id
id_of x = record { hart = x.hart; seq = x.seq }

-- the access is one of the word
pub record IsOf (accesses : List Access) (word : ℕ) (x : Access) : Type 0 where
  pub known : Contains accesses x
  pub same : x.word ≡ word

-- the list has the accesses of the word, and no others
abbrev pub AreAllOf : List Access → ℕ → List Access → Type 0
AreAllOf accesses word list = (x : Access) → Contains list x ↔ IsOf accesses word x

-- an access stands before another one: it is not of a higher version
abbrev pub StandsBefore : Access → Access → Type 0
StandsBefore x y = (x.version ≤ y.version) × (x ≢ y)

-- in the order of their versions, and none twice
abbrev pub AreByVersion : List Access → Type 0
AreByVersion accesses = AllPairs StandsBefore accesses

-- those before the place are of a lower version, and those from it on are not
abbrev pub IsStart : List Access → ℕ → ℕ → Type 0
IsStart accesses version place =
    IsPartitionPoint (λ x. x.version < version) (λ x. version ≤ x.version) accesses place

-- the access of the highest version below this one
abbrev pub IsLower : List Access → ℕ → Option Access → Type 0
IsLower accesses version None = (x : Access) → Contains accesses x → version ≤ x.version
IsLower accesses version (Some s) =
    Contains accesses s × (s.version < version)
    × ((x : Access) → Contains accesses x → x.version < version → x.version ≤ s.version)

-- the access of the lowest version from this one on, those of the hart left aside
abbrev pub IsFirstFrom : List Access → ℕ → Option ℕ → Option Access → Type 0
IsFirstFrom accesses version aside None =
    (x : Access) → Contains accesses x → version ≤ x.version → aside ≡ Some x.hart
IsFirstFrom accesses version aside (Some t) =
    Contains accesses t × (version ≤ t.version) × (aside ≢ Some t.hart)
    × ((x : Access) → Contains accesses x → version ≤ x.version → aside ≢ Some x.hart → t.version ≤ x.version)

-- no access's version stands between this bound and the version, and an access stands at a bound above 0
pub record IsNearestBelow (accesses : List Access) (version bound : ℕ) : Type 0 where
  pub none : (x : Access) → Contains accesses x → x.version < version → x.version ≤ bound
  pub some : 0 < bound → (x : Access) × Contains accesses x × (x.version ≡ bound) × (bound < version)

-- Those above the version and before the bound are the nearest, the hart's left aside. Where there
-- is one above the version, one stands before the bound.
pub record IsNearestAbove (accesses : List Access) (aside : Option ℕ) (version bound : ℕ) : Type 0 where
  pub nearest :
      (x y : Access) → Contains accesses x → Contains accesses y → x.version < bound → version < y.version →
      aside ≢ Some y.hart → x.version ≤ y.version
  pub some :
      (y : Access) → Contains accesses y → version < y.version → aside ≢ Some y.hart →
      (x : Access) × Contains accesses x × (version < x.version) × (x.version < bound) × (aside ≢ Some x.hart)
