-- The event, and what it depends on.
use Rattle.rv_event.specs.Log.{events}
use Rattle.rv_cut.proofs.bars.mark_event.Goals as goal

pub returns : goal.returns
returns c = λ own marked.
    let log = events c.args.log.now in
    c.mark_sources.ensures c.args.model log own
    (c.mark_bar.ensures log c.last_fence-after_loads.ensures c.last_fence-after_stores.ensures own marked)
