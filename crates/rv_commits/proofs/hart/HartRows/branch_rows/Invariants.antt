use Rattle.std.proofs.Common.{◌≡◌, ◌≤◌, ◌+◌, ◌-◌, length, take}
use Rattle.rv_flow.specs.Traces.{IsStill}
use Rattle.rv_commits.specs.Harts.{AreBranchRows}
use Rattle.rv_commits.proofs.hart.HartRows.branch_rows.Given as goal

-- the rows so far list the first events
pub record BranchRowsSoFar (l : goal.Live-rows) : Type 0 where
  pub upto : l.start ≤ length l.events.items
  pub are : AreBranchRows l.initial.self.hart l.initial.self.trace.rows (take l.start l.events.items) l.rows.items
  pub hart : l.self.hart ≡ l.initial.self.hart
  pub count : l.self.trace.rows ≡ l.initial.self.trace.rows + length l.rows.items
  pub carriers : l.self.trace.carriers ≡ l.initial.self.trace.carriers
  pub still : IsStill l.initial.self.trace l.self.trace

abbrev pub invariant-rows : goal.invariant-rows
invariant-rows l = BranchRowsSoFar l

abbrev pub decreases-rows : goal.decreases-rows
decreases-rows l = length l.events.items - l.start
