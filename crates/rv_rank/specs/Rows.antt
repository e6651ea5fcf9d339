-- The neighbours of each node, in two rows that grow at their ends.
use Rattle.std.specs.Prelude.{◌≡◌, ℕ, ◌+◌, ◌-◌, ◌<◌, ◌≤◌, List, [], ◌∷◌, ◌++◌, map, length}
use Rattle.std.specs.Prelude.{slice_index, slice_index_or}
use Rattle.std.specs.List.{Contains}
use Rattle.rv_rank.specs.declared.node.Side.{Side}
use Rattle.rv_rank.specs.declared.node.Side.TheVariants.{Incoming, Outgoing}

-- the nodes that an edge leads from, those that one leads to, and how many there is room for in all
pub record Neighbours : Type 0 where
  pub incoming : List ℕ
  pub outgoing : List ℕ
  pub room : ℕ

-- those on a side
abbrev pub row_of : Side → Neighbours → List ℕ
row_of Incoming n = n.incoming
row_of Outgoing n = n.outgoing

-- the side across
abbrev pub other : Side → Side
other Incoming = Outgoing
other Outgoing = Incoming

-- by node those on a side
abbrev pub rows_of : Side → List Neighbours → List (List ℕ)
rows_of side nodes = map (row_of side) nodes

-- by node those that its edges lead to
abbrev pub outgoing_of : List Neighbours → List (List ℕ)
outgoing_of nodes = map (λ n. n.outgoing) nodes

-- by node those that its edges lead from
abbrev pub incoming_of : List Neighbours → List (List ℕ)
incoming_of nodes = map (λ n. n.incoming) nodes

-- by node how many neighbours there is room for
abbrev pub rooms_of : List Neighbours → List ℕ
rooms_of nodes = map (λ n. n.room) nodes

-- how many neighbours a node has
abbrev pub degree : Neighbours → ℕ
degree n = length n.incoming + length n.outgoing

-- the node at a place has room for so many neighbours more
abbrev pub HasRoom : List Neighbours → ℕ → ℕ → Type 0
HasRoom nodes more a =
    (length (slice_index_or (incoming_of nodes) a []) + length (slice_index_or (outgoing_of nodes) a [])) + more
    ≤ slice_index (rooms_of nodes) a

-- no node has less room than before
abbrev pub KeepsRoom : List Neighbours → List Neighbours → Type 0
KeepsRoom old new = (a : ℕ) → slice_index (rooms_of old) a ≤ slice_index (rooms_of new) a

-- the last of a list
abbrev pub EndsIn : List ℕ → ℕ → Type 0
EndsIn row a = (0 < length row) × (slice_index row (length row - 1) ≡ a)

-- the rows at the places have one more item at the end, and the others are as they were
pub record IsAppended (old new : List (List ℕ)) (places : List ℕ) (item : ℕ) : Type 0 where
  pub long : length new ≡ length old
  pub here : (a : ℕ) → a < length old → Contains places a →
      slice_index_or new a [] ≡ slice_index_or old a [] ++ item ∷ []
  pub other : (a : ℕ) → (Contains places a → ⊥) → slice_index_or new a [] ≡ slice_index_or old a []
