-- What a row lists, beside the events.
use Rattle.std.specs.Prelude.{ℕ, ◌≡◌, ◌≤◌, ◌+◌, ◌↔◌, List, length}
use Rattle.rv_rows.specs.Bits.{Has}
use Rattle.rv_flow.specs.Carriers.{AreParts, IsBehind}
use Rattle.rv_flow.specs.declared.carriers.Carriers.{Carriers}
use Rattle.rv_flow.specs.declared.carriers.Lists.{Lists}

-- the rows are the same
pub record IsUnchanged (old new : Carriers) : Type 0 where
  pub all : new.all.items ≡ old.all.items
  pub next : new.next ≡ old.next

-- the parts are at most eight rows together, all earlier; behind them are just the events of the sets
pub record AreLists (carriers : Carriers) (addresses values : List ℕ) (lists : Lists) : Type 0 where
  pub few : length lists.address.items + length lists.value.items ≤ 8
  pub address_parts : AreParts carriers.next lists.address.items
  pub value_parts : AreParts carriers.next lists.value.items
  pub address : (n : ℕ) → Has addresses n ↔ IsBehind carriers.all.items lists.address.items n
  pub value : (n : ℕ) → Has values n ↔ IsBehind carriers.all.items lists.value.items n
