use Rattle.std.proofs.Common.{ℕ, ◌<◌}
use Rattle.rv_event.specs.Log.{events}
use Rattle.rv_settle.specs.Windows.{LeavesReserved}
use Rattle.rv_cut.specs.Cuts.{HasWaited, first_of}
use Rattle.rv_cut.proofs.closing.have_waited.Given as goal

abbrev pub invariant-harts : goal.invariant-harts
invariant-harts l = (hart : ℕ) → hart < l.hart → LeavesReserved (first_of l.cut) (events l.log) hart →
    HasWaited l.patience (events l.log) l.cut hart
