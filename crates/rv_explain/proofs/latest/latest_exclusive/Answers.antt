use Rattle.std.proofs.Common.{List, subst, sym, take, arith}
use Rattle.std.proofs.lemmas.List.{take_all}
use Rattle.rv_event.proofs.Scans.{events-more}
use Rattle.rv_event.specs.Log.{events}
use Rattle.rv_event.specs.declared.event.Entry.{Entry}
use Rattle.rv_event.specs.declared.event.Event.{Event}
use Rattle.rv_explain.specs.Latest.{IsLatest}
use Rattle.rv_explain.proofs.latest.latest_exclusive.Goals as goal

pub entries-preserved : goal.entries-preserved
entries-preserved c =
    let k = c.entries.entry-index in
    subst (λ (l : List Event). IsLatest l c.args.sc.now c.later_of-latest.result)
    (sym (events-more c.args.log.now k (let low = c.entries-test.true in omega (low, arith)) c.entry-item.result
    c.entry-item.is)) (c.later_of-latest.ensures (events (take k c.args.log.now)) c.entries.invariant)

pub returns : goal.returns
returns c = subst (λ (l : List Entry). IsLatest (events l) c.args.sc.now c.entries.latest)
    (take_all c.entries.entry-index c.args.log.now (let end = c.entries-test.false in omega (end, arith)))
    c.entries.invariant
