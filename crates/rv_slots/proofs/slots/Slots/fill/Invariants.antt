use Rattle.rv_slots.proofs.Common.{◌≡◌, filling_view, put_in, IsSameBook}
use Rattle.rv_slots.proofs.Loops.{HasWords}
use Rattle.rv_slots.proofs.slots.Slots.fill.Given as goal

abbrev pub invariant-loop-place : goal.invariant-loop-place
invariant-loop-place l = (l.filling.place.table_id ≡ l.self.table.shared.table_id)
    × HasWords (put_in (filling_view l.filling).state) l.words l.place
    × IsSameBook (filling_view l.fn.filling) (filling_view l.filling)
    × (l.filling.slot ≡ l.fn.filling.slot)
