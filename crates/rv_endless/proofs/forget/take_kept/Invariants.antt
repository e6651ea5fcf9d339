use Rattle.rv_cut.specs.Cuts.{first_of}
use Rattle.rv_endless.specs.Forgetting.{IsBookOf}
use Rattle.rv_settle.specs.Windows.{window}
use Rattle.std.proofs.Common.{take}
use Rattle.rv_endless.proofs.forget.take_kept.Given as goal

abbrev pub invariant-entries : goal.invariant-entries
invariant-entries l = IsBookOf l.kept l.book.model (window (first_of l.cut) (take l.entry-index l.entry-items))
