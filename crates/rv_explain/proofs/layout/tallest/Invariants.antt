use Rattle.std.proofs.Common.{◌≡◌, length}
use Rattle.rv_explain.specs.Layout.{blocks_text, greater, tallest}
use Rattle.rv_explain.proofs.layout.tallest.Given as goal

abbrev pub invariant-each : goal.invariant-each
invariant-each l = tallest (blocks_text l.blocks) ≡ greater l.height (tallest (blocks_text l.rest))

abbrev pub decreases-each : goal.decreases-each
decreases-each l = length l.rest
