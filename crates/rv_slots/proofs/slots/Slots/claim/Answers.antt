use Rattle.rv_slots.proofs.Common.{arith, common_steps}
use Rattle.rv_slots.proofs.ClaimSteps.{claims_by}
use Rattle.rv_slots.proofs.Told.{inside_after, clear_bit, set_bit}
use Rattle.rv_slots.proofs.slots.Slots.claim.Goals as goal

pub fetch_or-found-requires : goal.fetch_or-found-requires
fetch_or-found-requires c = let sized = c.args.self.now.sized in let below = c.requires.slot in
    let key = c.args.self.now.keyed in (
      c.requires.table,
      omega arith,
      claims_by c.args.self.now.table.shared.key c.args.self.now.table.shared.table_id.slots
          c.args.seat.place.id c.args.seat.number c.args.slot c.args.seat.place.me c.args.seat.idle
          (omega arith),
    )

pub invariant_of-result : goal.invariant_of-result
invariant_of-result c = grind (arith, common_steps, clear_bit, inside_after)

pub invariant_of-result-else-found-eq0 : goal.invariant_of-result-else-found-eq0
invariant_of-result-else-found-eq0 c = grind (arith, common_steps, set_bit)
