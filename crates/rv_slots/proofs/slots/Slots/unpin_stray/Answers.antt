use Rattle.rv_slots.proofs.Common.{arith, common_steps}
use Rattle.rv_slots.proofs.Told.{slot_below}
use Rattle.rv_slots.proofs.UnpinSteps.{unpins_stray_by}
use Rattle.rv_slots.proofs.slots.Slots.unpin_stray.Goals as goal

pub fetch_and-found-requires : goal.fetch_and-found-requires
fetch_and-found-requires c = let p = c.args.stray in let t = c.args.self.now.table.shared in
    let b = slot_below p.slot c.args.self.now.count t.key t.table_id p.place.table_id p.inside
    c.requires.table c.args.self.now.sized c.args.self.now.keyed in (
      c.requires.table,
      b.1,
      unpins_stray_by t.key t.table_id.slots p.place.id p.number p.slot
          c.pin_of-others.result p.place.me c.pin_of-others.ensures p.stray b.0,
    )

pub returns-clause-step : goal.returns-clause-step
returns-clause-step c = grind (arith, common_steps)
