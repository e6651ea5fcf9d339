-- The nodes of ids.
use Rattle.std.specs.Prelude.{ℕ, ◌<◌, ◌≡◌, List, Contains, length}
use Rattle.rv_event.specs.declared.reason.Link.{Link}
use Rattle.rv_event.specs.declared.event.Id.{Id}
use Rattle.rv_book.specs.Arranged.{at}

-- a node has the id
abbrev pub HasNode : List Id → Id → Type 0
HasNode ids i = (a : ℕ) × (a < length ids) × (at ids a ≡ i)

-- the nodes are those of the links' ids
pub record AreNodes (ids : List Id) (links : List Link) (nodes : List ℕ) : Type 0 where
  pub low : (p : ℕ) → Contains nodes p → p < length ids
  pub linked : (p : ℕ) → Contains nodes p → (l : Link) × Contains links l × (at ids p ≡ l.id)
  pub each : (l : Link) → Contains links l → (p : ℕ) × Contains nodes p × (at ids p ≡ l.id)
