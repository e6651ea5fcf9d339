-- The rows of a hart: what its instructions hold, and the carriers among its rows.
use Rattle.std.specs.Prelude.{ℕ, ◌≡◌, ◌<◌, ◌≤◌, ◌+◌, ◌↔◌, ◌⊎◌, List, Contains, length}
use Rattle.rv_insn.specs.declared.insn.Insn.{Insn}
use Rattle.rv_flow.specs.Carriers.{AreCarriers, AreParts, IsBehind, IsEvent}
use Rattle.rv_flow.specs.Dependencies.{EventAt, HasAddress, HasControl, HasData}
use Rattle.rv_flow.specs.Flows.{IsFlowOf, with_next}
use Rattle.rv_flow.specs.declared.carrier.Carrier.{Carrier}
use Rattle.rv_flow.specs.declared.carriers.Lists.{Lists}
use Rattle.rv_flow.specs.declared.flow.Flow.{Flow}
use Rattle.rv_flow.specs.declared.step.Step.{Step}

-- the flow of the instructions so far, the carriers among the rows, and how many rows there are
pub record Traced : Type 0 where
  pub flow : Flow
  pub carriers : List Carrier
  pub rows : ℕ

-- the rows are those of the instructions: each event has a row of its own, which is no carrier
pub record IsTraceOf (steps : List Step) (trace : Traced) : Type 0 where
  pub flow : IsFlowOf steps trace.flow
  pub carriers : AreCarriers trace.carriers trace.rows
  pub events : (i n : ℕ) → EventAt steps i n → IsEvent trace.carriers n × (n < trace.rows)

-- so it stays, whatever the instructions
abbrev pub IsStill : Traced → Traced → Type 0
IsStill old new = (steps : List Step) → IsTraceOf steps old → IsTraceOf steps new

-- the lists of the hart's next instruction: at most eight earlier rows, and behind them are just the events
-- on which its address, and its data, depend
pub record AreDependencies (steps : List Step) (x : Step) (trace : Traced) (lists : Lists) : Type 0 where
  pub few : length lists.address.items + length lists.value.items ≤ 8
  pub address_parts : AreParts trace.rows lists.address.items
  pub value_parts : AreParts trace.rows lists.value.items
  pub address : (n : ℕ) →
      IsBehind trace.carriers lists.address.items n ↔ HasAddress (with_next steps x) (length steps) n
  pub value : (n : ℕ) → IsBehind trace.carriers lists.value.items n ↔ HasData (with_next steps x) (length steps) n

abbrev pub ListsNext : Traced → Insn → Traced → Lists → Type 0
ListsNext old insn new lists =
    (steps : List Step) (x : Step) → IsTraceOf steps old → x.insn ≡ insn → AreDependencies steps x new lists

-- with the events, a control dependency of the instructions behind the next one is one of before, or one on
-- these
abbrev pub AddsControl : Traced → Insn → List ℕ → Type 0
AddsControl trace insn events =
    (steps : List Step) (x : Step) → IsTraceOf steps trace → x.insn ≡ insn → (n : ℕ) →
    HasControl (with_next steps x) (length (with_next steps x)) n ↔
    (HasControl steps (length steps) n ⊎ Contains events n)

-- the trace has one row more, and the same carriers
pub record IsOneRowMore (old new : Traced) : Type 0 where
  pub carriers : new.carriers ≡ old.carriers
  pub rows : new.rows ≡ old.rows + 1
