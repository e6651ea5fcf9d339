-- The rows of a hart in a trace, of which some are carriers.
use Rattle.std.specs.Prelude.{ℕ, ◌≡◌, ◌≢◌, ◌<◌, ◌↔◌, List, Contains, length, map, slice_index_or}
use Rattle.rv_event.specs.Relations.{DependsOn}
use Rattle.rv_event.specs.declared.event.Dep.{Dep}
use Rattle.rv_event.specs.declared.event.DepKind.{DepKind}
use Rattle.rv_event.specs.declared.event.DepKind.TheVariants.{DataOf}
use Rattle.rv_event.specs.declared.event.Event.{Event}
use Rattle.rv_event.specs.declared.event.Op.TheVariants as op
use Rattle.rv_flow.specs.Carriers.{AreCarriers, IsBehind, IsEvent}
use Rattle.rv_flow.specs.declared.carrier.Carrier.{Carrier}

-- dependencies of this kind on these rows
abbrev pub parts_of : DepKind → List ℕ → List Dep
parts_of kind parts = map (λ p. record { kind = kind; seq = p }) parts

-- the row lists these rows and no others as dependencies of this kind
abbrev pub ListsJust : DepKind → Event → List ℕ → Type 0
ListsJust kind row parts = (p : ℕ) → Contains row.deps (record { kind = kind; seq = p }) ↔ Contains parts p

-- the row of a carrier
pub record IsRowOf (c : Carrier) (row : Event) : Type 0 where
  pub op : row.op ≡ op.Carrier
  pub lists : ListsJust DataOf row c.list.parts.items

-- the rows of a hart, each at the place of its number; those of the carriers are carriers, and no others
pub record AreRows (hart : ℕ) (carriers : List Carrier) (rows : List Event) : Type 0 where
  pub are : AreCarriers carriers (length rows)
  pub numbered : (n : ℕ) (d : Event) → n < length rows → (slice_index_or rows n d).id ≡ record { hart = hart; seq = n }
  pub carried : (c : Carrier) (d : Event) → Contains carriers c → IsRowOf c (slice_index_or rows c.number d)
  pub others : (n : ℕ) (d : Event) → n < length rows → IsEvent carriers n →
      (slice_index_or rows n d).op ≢ op.Carrier

-- a row depends on just those rows that are behind the ones that it lists, where these are earlier
abbrev pub RowsDependAsListed : Type 0
RowsDependAsListed =
    (hart : ℕ) (carriers : List Carrier) (rows : List Event) → AreRows hart carriers rows → (kind : DepKind)
    (e : Event) (parts : List ℕ) → e.id.hart ≡ hart → ListsJust kind e parts →
    ((p : ℕ) → Contains parts p → p < e.id.seq) → (a : Event) →
    Contains rows a → a.op ≢ op.Carrier → DependsOn rows kind e a ↔ IsBehind carriers parts a.id.seq
