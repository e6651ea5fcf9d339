-- Events of the log are marked where they stand there.
use Rattle.std.proofs.Common.{subst, sym}
use Rattle.rv_event.proofs.Scans.{event-at}
use Rattle.rv_event.specs.Log.{events}
use Rattle.rv_cut.proofs.bars.mark_bars.Goals.{else-entry-lt16, then-entry-lt16}
use Rattle.rv_cut.specs.Marked.{AreMarked}
use Rattle.rv_cut.proofs.bars.mark_bars.Goals as goal

pub loop-entry-preserved : goal.loop-entry-preserved
loop-entry-preserved c = λ marked.
    let log = events c.args.log.now in
    elim c.if-entry-lt16.branch [
      | then-entry-lt16 w ↦
          let own = event-at c.args.log.now c.loop-entry.entry-index c.loop-entry-test.true c.entry-item.result
          c.entry-item.is in
          subst (AreMarked c.args.model log) (sym w.marks-is)
          (w.mark_event-then-entry-lt16.ensures own (w.mark_event.ensures own (c.loop-entry.invariant marked)))
      | else-entry-lt16 w ↦ subst (AreMarked c.args.model log) (sym w.marks-is) (c.loop-entry.invariant marked)
    ]
