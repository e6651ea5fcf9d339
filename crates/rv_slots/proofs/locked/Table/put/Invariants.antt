-- The slots so far are full, and nothing has changed.
use Rattle.std.proofs.Common.{◌≡◌}
use Rattle.rv_slots.specs.SlotLists.{AreFull}
use Rattle.rv_slots.proofs.locked.Table.put.Given as goal

abbrev pub invariant-loop-index : goal.invariant-loop-index
invariant-loop-index l = record {
  same : l.self.slots.items ≡ l.fn.self.slots.items;
  full : AreFull l.fn.self.slots.items l.index;
}
