-- What the rows that carry dependencies stand for.
use Rattle.std.specs.Prelude.{ℕ, ◌≡◌, ◌≢◌, ◌<◌, ◌≤◌, ◌+◌, ◌↔◌, ◌++◌, List, Contains, length, slice_index_or}
use Rattle.rv_rows.specs.Bits.{Has}
use Rattle.rv_flow.specs.declared.carrier.Carrier.{Carrier}
use Rattle.rv_flow.specs.declared.carrier.PartList.{PartList}

-- the row of this number is no carrier
abbrev pub IsEvent : List Carrier → ℕ → Type 0
IsEvent carriers n = (c : Carrier) → Contains carriers c → c.number ≢ n

-- event n is behind row p: it is the row, or is behind a row that the row lists, which is a carrier
pub data Behind (carriers : List Carrier) : ℕ → ℕ → Type 0 where
  itself : {n : ℕ} → IsEvent carriers n → Behind carriers n n
  through :
      {c : Carrier} {p n : ℕ} → Contains carriers c → Contains c.list.parts.items p → Behind carriers p n →
      Behind carriers c.number n

-- event n is behind one of the rows
abbrev pub IsBehind : List Carrier → List ℕ → ℕ → Type 0
IsBehind carriers parts n = (p : ℕ) × Contains parts p × Behind carriers p n

-- the rows stand before row `next`, and are at most eight
pub record AreParts (next : ℕ) (parts : List ℕ) : Type 0 where
  pub few : length parts ≤ 8
  pub before : (p : ℕ) → Contains parts p → p < next

-- and the events are those behind them
pub record IsList (carriers : List Carrier) (next : ℕ) (list : PartList) : Type 0 where
  pub parts : AreParts next list.parts.items
  pub events : (n : ℕ) → Has list.events n ↔ IsBehind carriers list.parts.items n

-- so with a carrier, which lists one at least
pub record IsCarrier (carriers : List Carrier) (c : Carrier) : Type 0 where
  pub some : 0 < length c.list.parts.items
  pub parts : AreParts c.number c.list.parts.items
  pub events : (n : ℕ) → Has c.list.events n ↔ Behind carriers c.number n

-- these are the carriers among the rows before row `next`
pub record AreCarriers (carriers : List Carrier) (next : ℕ) : Type 0 where
  pub few : next ≤ 4096
  pub before : (c : Carrier) → Contains carriers c → c.number < next
  pub each : (c : Carrier) → Contains carriers c → IsCarrier carriers c

-- there are the carriers of before, and perhaps more, of later rows
pub record IsGrown (old : List Carrier) (old_next : ℕ) (new : List Carrier) (new_next : ℕ) : Type 0 where
  pub more : List Carrier
  pub kept : new ≡ old ++ more
  pub later : (c : Carrier) → Contains more c → old_next ≤ c.number
  pub next : old_next ≤ new_next
  pub are : AreCarriers new new_next

-- the new carriers are the rows from `old_next` on, in their order
pub record AreNextRows (old : List Carrier) (old_next : ℕ) (new : List Carrier) (new_next : ℕ) : Type 0 where
  pub count : new_next + length old ≡ old_next + length new
  pub each : (i : ℕ) (c : Carrier) → length old ≤ i → i < length new →
      (slice_index_or new i c).number + length old ≡ old_next + i

-- the numbers are events' before row `next`
abbrev pub AreEvents : List Carrier → ℕ → List ℕ → Type 0
AreEvents carriers next row = (n : ℕ) → Has row n → IsEvent carriers n × (n < next)

-- the sets have the same numbers
abbrev pub IsSameSet : List ℕ → List ℕ → Type 0
IsSameSet row other = (n : ℕ) → Has row n ↔ Has other n
