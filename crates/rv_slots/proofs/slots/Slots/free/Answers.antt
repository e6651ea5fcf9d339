use Rattle.std.proofs.Common.{arith, sym, ◌∙◌}
use Rattle.rv_slots.proofs.Told.{not_last}
use Rattle.rv_slots.proofs.EndSteps.{frees_to}
use Rattle.rv_slots.proofs.slots.Slots.free.Goals as goal

pub compare_exchange-found-requires : goal.compare_exchange-found-requires
compare_exchange-found-requires c =
    let q = c.args.seat.now in
    let t = c.args.self.now.table.shared in
    let sized = c.args.self.now.sized in
    let below = c.requires.slot in
    let key = c.args.self.now.keyed in (
      c.requires.table,
      omega arith,
      frees_to t.key t.table_id.slots q.place.id q.number c.args.slot c.args.seen
          c.next_word.result q.place.me c.next_word.ensures q.idle (omega arith)
          (sym c.is_free_word.ensures ∙ c.if-not-is_free_word.false)
          (not_last _ c.is_last.result c.is_last.ensures c.if-is_last.false),
    )
