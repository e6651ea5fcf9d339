-- The files that a line of a list names: its parts between tabs.
use Rattle.std.specs.Prelude.{◌≡◌, ◌<◌, ◌≤◌, ◌==◌, ℕ, List, [], All, IsUtf8, length, ⊤}
use Rattle.std.specs.List.{Contains, slice_split}
use Rattle.rv_list.specs.declared.names.NamesFault.{NamesFault}
use Rattle.rv_list.specs.declared.names.NamesFault.TheVariants as fault

abbrev pub parts : List ℕ → List (List ℕ)
parts line = slice_split (λ b. b == 9) line

-- a part that is a name
abbrev pub IsName : List ℕ → Type 0
IsName part = (0 < length part) × IsUtf8 part

-- and one that is none
abbrev pub IsNameFault : List ℕ → NamesFault → Type 0
IsNameFault part fault.NotText = IsUtf8 part → ⊥
IsNameFault part fault.Empty = part ≡ []
IsNameFault part fault.TooMany = ⊥
IsNameFault part fault.NoMemory = ⊤

-- these are the names: one to eight
abbrev pub AreNames : List ℕ → List (List ℕ) → Type 0
AreNames line names = (names ≡ parts line) × (length names ≤ 8) × All IsName names

-- there are more, or one of the parts is no name
abbrev pub IsNamesFault : List ℕ → NamesFault → Type 0
IsNamesFault line fault.NotText = (part : List ℕ) × Contains (parts line) part × (IsUtf8 part → ⊥)
IsNamesFault line fault.Empty = Contains (parts line) []
IsNamesFault line fault.TooMany = 8 < length (parts line)
IsNamesFault line fault.NoMemory = ⊤
