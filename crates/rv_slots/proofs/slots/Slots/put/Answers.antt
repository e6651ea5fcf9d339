use Rattle.rv_slots.proofs.Told.{slot_below, content_below}
use Rattle.rv_slots.proofs.FillSteps.{puts_by}
use Rattle.rv_slots.proofs.slots.Slots.put.Goals as goal

pub store-requires : goal.store-requires
store-requires c = let p = c.args.filling.now in let t = c.args.self.now.table.shared in let b =
    slot_below p.slot c.args.self.now.count t.key t.table_id p.place.table_id p.inside
    c.requires.table c.args.self.now.sized c.args.self.now.keyed in (
      c.requires.table,
      content_below p.slot c.args.place c.args.self.now.count t.key t.table_id
          p.place.table_id p.inside c.requires.table c.args.self.now.sized c.args.self.now.keyed
          c.requires.place,
      puts_by t.key t.table_id.slots p.place.id p.number p.slot c.args.place c.args.word
          p.place.me p.fills b.0 c.requires.place,
    )
