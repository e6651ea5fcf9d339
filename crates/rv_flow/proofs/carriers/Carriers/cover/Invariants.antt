use Rattle.std.proofs.Common.{ℕ, ◌⊎◌, ◌↔◌}
use Rattle.rv_rows.specs.Bits.{Has}
use Rattle.rv_flow.specs.Carriers.{IsList}
use Rattle.rv_flow.proofs.carriers.Carriers.cover.Given as goal

-- the list is one, and has the events that the set lost
pub record Covered (l : goal.Live-latest) : Type 0 where
  pub list : IsList l.self.all.items l.self.next l.list
  pub moved : (n : ℕ) → (Has l.list.events n ⊎ Has l.rest n) ↔ (Has l.fn.list.events n ⊎ Has l.fn.rest n)

abbrev pub invariant-latest : goal.invariant-latest
invariant-latest l = Covered l
