use Rattle.rv_versions.proofs.Common.{◌≡◌, ◌≤◌, ◌<◌, ℕ, List, Contains, Event, AreOfWord, Access}
use Rattle.rv_versions.proofs.accesses.Accesses.foreign_lower_store.Given as goal

-- no store of another hart stands from the bound on
abbrev pub invariant-stores : goal.invariant-stores
invariant-stores l = (l.bound ≤ l.fn.version)
    × ((log : List Event) (word : ℕ) → AreOfWord log word l.fn.self → (x : Access) → Contains l.fn.self.stores x →
    l.bound ≤ x.version → x.version < l.fn.version → x.hart ≡ l.fn.hart)

abbrev pub decreases-stores : goal.decreases-stores
decreases-stores l = l.bound
