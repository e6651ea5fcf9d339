-- Nothing is counted of nothing.
use Rattle.std.proofs.Common.{None, replicate}
use Rattle.rv_book.proofs.Tallies.{even, tallied_none}
use Rattle.rv_book.proofs.tally.Tally.new.Goals as goal

pub returns : goal.returns
returns c = tallied_none (replicate 16 None) (replicate 256 0) (even 16 None) (λ s low. even 256 0 s)
