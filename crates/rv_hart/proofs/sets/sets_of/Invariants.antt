use Rattle.rv_hart.proofs.Common.{◌≡◌, take, Hart, IsHart, AreSets}
use Rattle.rv_hart.proofs.sets.sets_of.Given as goal

abbrev pub invariant-loop-number : goal.invariant-loop-number
invariant-loop-number l = (h : Hart) → IsHart h → h.model ≡ l.model → h.events ≡ l.events →
    AreSets (record h { events = take l.number l.events }) l.sets
