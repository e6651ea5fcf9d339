-- The last of the entries so far, and of one more.
use Rattle.rv_cut.specs.Exclusives.{IsLastExclusive}
use Rattle.rv_event.proofs.Scans.{events-more}
use Rattle.rv_event.specs.Log.{events}
use Rattle.rv_event.specs.declared.event.Entry.{Entry}
use Rattle.rv_event.specs.declared.event.Event.{Event}
use Rattle.std.proofs.Common.{List, subst, sym}
use Rattle.std.proofs.lemmas.List.{take_all}
use Rattle.std.specs.Option.{option_copied}
use Rattle.rv_cut.proofs.exclusive.last_exclusive.Goals as goal

pub loop-entry-preserved : goal.loop-entry-preserved
loop-entry-preserved c =
    subst (λ (es : List Event). IsLastExclusive es c.args.hart (option_copied c.later_exclusive-last.result))
    (sym (events-more c.args.log.now c.loop-entry.entry-index c.loop-entry-test.true c.entry-item.result
    c.entry-item.is))
    (c.later_exclusive-last.ensures _ c.loop-entry.invariant)

pub returns : goal.returns
returns c =
    subst (λ (xs : List Entry). IsLastExclusive (events xs) c.args.hart (option_copied c.loop-entry.last))
    (take_all c.loop-entry.entry-index c.args.log.now c.loop-entry-test.false) c.loop-entry.invariant
