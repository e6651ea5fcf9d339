use Rattle.std.proofs.Common.{◌≡◌, ◌≤◌, [], length, string_bytes}
use Rattle.rv_explain.specs.Layout.{blocks_text, end_of, line_across}
use Rattle.rv_explain.proofs.layout.line_across.Given as goal

-- the whole line is what the blocks that are left add to it, and these end soon
pub record Across (l : goal.Live-each) : Type 0 where
  pub whole :
      line_across l.number 2 (blocks_text l.initial.blocks) [] ≡
      line_across l.number l.at (blocks_text l.rest) (string_bytes l.line)
  pub narrow : end_of l.at (blocks_text l.rest) ≤ 103

abbrev pub invariant-each : goal.invariant-each
invariant-each l = Across l

abbrev pub decreases-each : goal.decreases-each
decreases-each l = length l.rest
