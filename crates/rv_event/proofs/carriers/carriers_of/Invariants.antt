use Rattle.rv_event.proofs.Common.{ℕ, ◌<◌, events}
use Rattle.rv_rows.specs.Bits.{Has}
use Rattle.rv_event.specs.Carried.{IsCarrying, IsSound}
use Rattle.rv_event.proofs.carriers.carriers_of.Given as goal

-- after so many rounds all numbers below are marked, and no others
pub record Rounds (l : goal.Live-rounds) : Type 0 where
  pub sound : IsSound (events l.log) l.on l.marked
  pub below : (n : ℕ) → n < l.counter → IsCarrying (events l.log) l.on n → Has l.marked n

abbrev pub invariant-rounds : goal.invariant-rounds
invariant-rounds l = Rounds l
