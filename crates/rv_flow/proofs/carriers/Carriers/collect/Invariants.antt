use Rattle.std.proofs.Common.{ℕ, ◌⊎◌, ◌↔◌, take, Contains}
use Rattle.rv_rows.specs.Bits.{Has}
use Rattle.rv_flow.specs.Carriers.{AreNextRows, IsGrown, IsList}
use Rattle.rv_flow.proofs.carriers.Carriers.collect.Given as goal

-- the list has the events of the carriers that cover it, and those so far
pub record Collected (l : goal.Live-events) : Type 0 where
  pub grown : IsGrown l.fn.self.all.items l.fn.self.next l.self.all.items l.self.next
  pub numbered : AreNextRows l.fn.self.all.items l.fn.self.next l.self.all.items l.self.next
  pub list : IsList l.self.all.items l.self.next l.list
  pub events : (n : ℕ) →
      Has l.list.events n ↔ (Has l.initial.list.events n ⊎ Contains (take l.event-index l.event-items) n)

abbrev pub invariant-events : goal.invariant-events
invariant-events l = Collected l
