-- A hart's events are counted, and they are no more than 4,096.
use Rattle.std.proofs.Common.{arith, sym, ◌<◌, ◌∙◌}
use Rattle.std.proofs.lemmas.Grind.{common_steps}
use Rattle.rv_event.proofs.Scans.{event-at}
use Rattle.rv_cut.proofs.Entries.{count-more, count-prefix, set-more}
use Rattle.rv_cut.proofs.cut.Cut.behind.Goals as goal

pub bounds-firsts-entry : goal.bounds-firsts-entry
bounds-firsts-entry c =
    c.requires.harts c.entry-item.result.event
    (event-at c.args.log.now c.loop-entry.entry-index c.loop-entry-test.true c.entry-item.result c.entry-item.is)

pub bounds-firsts-entry-in-loop-entry : goal.bounds-firsts-entry-in-loop-entry
bounds-firsts-entry-in-loop-entry c =
    c.requires.harts c.entry-item.result.event
    (event-at c.args.log.now c.loop-entry.entry-index c.loop-entry-test.true c.entry-item.result c.entry-item.is)

pub overflow_add-firsts : goal.overflow_add-firsts
overflow_add-firsts c =
    let hart = c.entry-item.result.event.id.hart in
    let counted = c.loop-entry.invariant.1 hart in
    let prefix = count-prefix c.args.log.now c.loop-entry.entry-index hart in
    let few = c.requires.few hart in
    omega (arith, counted, prefix, few)

pub loop-entry-preserved : goal.loop-entry-preserved
loop-entry-preserved c = (
  grind (arith, common_steps),
  λ hart.
      let more = count-more c.args.log.now c.loop-entry.entry-index c.entry-item.result hart c.loop-entry-test.true
      c.entry-item.is in
      let counted = c.loop-entry.invariant.1 hart in
      let low : c.entry-item.result.event.id.hart < 16 = c.requires.harts c.entry-item.result.event
      (event-at c.args.log.now c.loop-entry.entry-index c.loop-entry-test.true c.entry-item.result
      c.entry-item.is) in
      set-more c.loop-entry.firsts c.entry-item.result.event.id.hart hart _
      (omega (arith, low, c.loop-entry.invariant.0)) counted
      ∙ sym more,
)
