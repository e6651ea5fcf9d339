-- What is found among the accesses to one word.
use Rattle.std.specs.Prelude.{ℕ, ◌≡◌, ◌≢◌, ◌<◌, ◌≤◌, List, Contains, Option, Some, None}
use Rattle.rv_versions.specs.declared.accesses.Access.{Access}
use Rattle.rv_versions.specs.declared.accesses.Accesses.{Accesses}

-- a store of a version below this one that another hart wrote
abbrev pub IsForeignBelow : List Access → ℕ → ℕ → Access → Type 0
IsForeignBelow stores version hart s = Contains stores s × (s.version < version) × (s.hart ≢ hart)

-- the store of the highest version below this one that another hart wrote
abbrev pub IsForeignLower : List Access → ℕ → ℕ → Option Access → Type 0
IsForeignLower stores version hart None = (x : Access) → Contains stores x → x.version < version → x.hart ≡ hart
IsForeignLower stores version hart (Some s) =
    IsForeignBelow stores version hart s
    × ((x : Access) → Contains stores x → x.version < version → x.hart ≢ hart → x.version ≤ s.version)

-- a store of another hart than the SC's stands between what the SC's LR returned and the version
abbrev pub IsParted : List Access → Access → ℕ → Type 0
IsParted stores sc version =
    (s : Access) × Contains stores s × (s.hart ≢ sc.hart) × (sc.version < s.version) × (s.version < version)

-- below the bound each SC of another hart than this one is parted from the version
abbrev pub IsUnparted : Accesses → ℕ → ℕ → ℕ → Type 0
IsUnparted accesses hart version bound =
    (sc : Access) → Contains accesses.pairs sc → sc.version < version → sc.version < bound → sc.hart ≢ hart →
    IsParted accesses.stores sc version
