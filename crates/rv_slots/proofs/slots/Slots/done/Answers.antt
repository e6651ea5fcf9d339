use Rattle.rv_slots.proofs.Told.{slot_below}
use Rattle.rv_slots.proofs.EndSteps.{finishes_by}
use Rattle.rv_slots.proofs.slots.Slots.done.Goals as goal

pub fetch_or-requires : goal.fetch_or-requires
fetch_or-requires c = let p = c.args.pinned.now in let t = c.args.self.now.table.shared in let b =
    slot_below p.slot c.args.self.now.count t.key t.table_id p.place.table_id p.inside
    c.requires.table c.args.self.now.sized c.args.self.now.keyed in (
      c.requires.table,
      b.1,
      finishes_by t.key t.table_id.slots p.place.id p.number p.slot
          p.place.me p.pinned b.0,
    )
