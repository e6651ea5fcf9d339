use Rattle.rv_book.proofs.Common.{◌-◌, length}
use Rattle.rv_book.specs.Counts.{AreSettled}
use Rattle.rv_book.proofs.book.settle.Given as goal

abbrev pub invariant-entries : goal.invariant-entries
invariant-entries l = AreSettled l.arrangement.log l.place

abbrev pub decreases-entries : goal.decreases-entries
decreases-entries l = length l.arrangement.log - l.place
