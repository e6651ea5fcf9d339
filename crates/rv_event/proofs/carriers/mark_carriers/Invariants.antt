use Rattle.rv_event.proofs.Common.{◌≡◌, ℕ, false, take, Contains, events, Event}
use Rattle.rv_rows.specs.Bits.{Has}
use Rattle.rv_event.specs.Carried.{Carries, IsSound}
use Rattle.rv_event.proofs.carriers.mark_carriers.Given as goal

-- what the carriers so far put in
pub record Marked (l : goal.Live-entries) : Type 0 where
  pub kept : (n : ℕ) → Has l.fn.marked n → Has l.marked n
  pub sound : IsSound (events l.log) l.on l.fn.marked → IsSound (events l.log) l.on l.marked
  pub full : (c : Event) → Contains (events (take l.entry-index l.log)) c → Carries c l.on l.fn.marked →
      Has l.marked c.id.seq
  pub same : l.is_changed ≡ false → (n : ℕ) → Has l.marked n → Has l.fn.marked n

abbrev pub invariant-entries : goal.invariant-entries
invariant-entries l = Marked l
