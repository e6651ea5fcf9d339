-- The events of the sources so far.
use Rattle.std.proofs.Common.{◌↔◌, ℕ, None, take}
use Rattle.rv_flow.specs.Dependencies.{IsSource}
use Rattle.rv_flow.specs.Flows.{Holds}
use Rattle.rv_rows.specs.Bits.{Has}
use Rattle.rv_flow.proofs.Gathering.{SoFar}
use Rattle.rv_flow.proofs.flow.Flow.held_by_sources.Given as goal

abbrev pub invariant-loop-source : goal.invariant-loop-source
invariant-loop-source l =
    (n : ℕ) → Has l.row n ↔ SoFar None (IsSource l.fn.insn) (Holds l.self) (take l.source-index l.source-items) n
