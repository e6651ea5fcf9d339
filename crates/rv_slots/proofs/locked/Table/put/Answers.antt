-- The slot that took the chunk is the first that was free.
use Rattle.std.proofs.Common.{◌∙◌, ◌<◌, List, ap, arith, get_or, length, refl, slice_set, subst}
use Rattle.std.specs.Prelude.{IsNone}
use Rattle.std.proofs.lemmas.List.{get_or_default}
use Rattle.std.proofs.lemmas.Grind.{common_steps}
use Rattle.rv_slots.specs.declared.slot.Slot.{Slot}
use Rattle.rv_slots.proofs.locked.Table.put.Goals as goal

pub returns-in-Placed-clause-placed : goal.returns-in-Placed-clause-placed
returns-in-Placed-clause-placed c _ =
    let placed = c.in-Placed.ensures.placed refl in
    let i = c.loop-index.index in
    let within : i < length c.loop-index.self.slots.items = grind (arith, common_steps) in
    record {
      index = i;
      slot = c.put.new.self;
      within = omega (arith, within, ap length c.loop-index.invariant.same);
      full = c.loop-index.invariant.full;
      free = λ s.
          let at = c.index_mut.ensures.value ∙ get_or_default _ i _ s within
          ∙ ap (λ (xs : List Slot). get_or xs i s) c.loop-index.invariant.same in
          subst (λ (x : Slot). IsNone x.chunk) at placed.0;
      filled = placed.1;
      undone = placed.2;
      only = ap (λ (xs : List Slot). slice_set xs i c.put.new.self) c.loop-index.invariant.same;
    }
