use Rattle.std.proofs.Common.{refl}
use Rattle.rv_slots.proofs.Told.{slot_below, content_below}
use Rattle.rv_slots.proofs.GetSteps.{gets_by}
use Rattle.rv_slots.proofs.slots.Slots.get.Goals as goal

pub load-requires : goal.load-requires
load-requires c = let p = c.args.pinned.now in let t = c.args.self.now.table.shared in let b =
    slot_below p.slot c.args.self.now.count t.key t.table_id p.place.table_id p.inside
    c.requires.table c.args.self.now.sized c.args.self.now.keyed in (
      c.requires.table,
      content_below p.slot c.args.place c.args.self.now.count t.key t.table_id
          p.place.table_id p.inside c.requires.table c.args.self.now.sized c.args.self.now.keyed
          c.requires.place,
      gets_by t.key t.table_id.slots p.place.id p.number p.slot c.args.place p.place.me p.pinned
          b.0 c.requires.place,
    )

pub returns-clause-again : goal.returns-clause-again
returns-clause-again c =
    λ v. c.load.ensures.2.1 c.args.place v c.requires.place c.args.pinned.now.slot refl
