use Rattle.rv_event.specs.Log.{events}
use Rattle.rv_event.proofs.Indexed.{indexed_from_WellFormed, indexed_within}
use Rattle.rv_settle.proofs.Windows.{into-window, onto-window, stale-back, stale-in}
use Rattle.rv_settle.specs.Windows.{window}
use Rattle.rv_settle.proofs.laws.windows_have_the_stale_pairs.Goals as goal

pub returns : goal.returns
returns c limit log first a b ok ok' ca cb kept kept' =
    let known = indexed_within limit log ok in
    let known' = indexed_from_WellFormed (window first log) ok' in (
      stale-in (events log) (events (window first log)) first known known' (into-window first log)
          (onto-window first log) a b ca cb kept kept',
      stale-back (events log) (events (window first log)) first known known' (into-window first log)
          (onto-window first log) a b ca cb kept kept',
    )
