use Rattle.rv_slots.proofs.Common.{rules, arith, common_steps}
use Rattle.rv_slots.proofs.PinSteps.{pins_with}
use Rattle.rv_slots.proofs.Told.{zero_one, view_told, inside_after, latest_told, full_set, full_clear, done_set}
use Rattle.rv_slots.proofs.Told.{done_clear}
use Rattle.rv_slots.proofs.slots.Slots.pin.Goals.{else-found-ne0-via-then-found-ne0+else-found-eq0}
use Rattle.rv_slots.proofs.slots.Slots.pin.Goals.{else-found-ne0-via-else-found-ne0}
use Rattle.rv_slots.proofs.slots.Slots.pin.Goals as goal

pub fetch_or-found-requires : goal.fetch_or-found-requires
fetch_or-found-requires c = let sized = c.args.self.now.sized in let below = c.requires.slot in
    let key = c.args.self.now.keyed in let t = c.args.self.now.table.shared in let q = c.args.seat
    in (
      c.requires.table,
      omega arith,
      pins_with t.key t.table_id.slots q.place.id q.number c.args.slot c.pin_of.result
          q.place.me c.pin_of.ensures q.idle (omega arith),
    )

pub invariant_of-result : goal.invariant_of-result
invariant_of-result c = grind (arith, common_steps, full_set, done_clear, inside_after)

pub invariant_of-result-else-found-ne0 : goal.invariant_of-result-else-found-ne0
invariant_of-result-else-found-ne0 c = let q = c.args.seat in let n = c.fetch_or-found.result in
    record {
      stray =
          search (
            n,
            else-found-ne0-via-then-found-ne0+else-found-eq0,
            done_set,
            else-found-ne0-via-else-found-ne0,
            zero_one,
            full_clear,
            rules,
          );
      inside = grind (arith, common_steps);
    }

pub returns-then-found-eq0 : goal.returns-then-found-eq0
returns-then-found-eq0 c = search (full_set, done_clear, view_told, latest_told)
