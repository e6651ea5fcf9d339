use Rattle.std.proofs.Common.{◌≡◌, ◌≤◌, ◌+◌, ◌*◌, length}
use Rattle.rv_explain.specs.Layout.{blocks_text, end_of}
use Rattle.rv_explain.proofs.layout.have_room.Given as goal

-- the blocks end where those that are left end, and the sum is small
pub record Ending (l : goal.Live-each) : Type 0 where
  pub end : end_of 2 (blocks_text l.initial.blocks) ≡ end_of l.at (blocks_text l.rest)
  pub small : l.at + 103 * length l.rest ≤ 311

abbrev pub invariant-each : goal.invariant-each
invariant-each l = Ending l

abbrev pub decreases-each : goal.decreases-each
decreases-each l = length l.rest
