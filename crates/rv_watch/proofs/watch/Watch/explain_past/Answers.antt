use Rattle.std.proofs.Common.{arith, subst, sym}
use Rattle.rv_event.proofs.Bounded.{length-WellFormed}
use Rattle.rv_event.specs.WellFormed.{WellFormed}
use Rattle.rv_watch.proofs.watch.Watch.explain_past.Goals as goal

pub next_of-next-requires : goal.next_of-next-requires
next_of-next-requires c =
    let most = length-WellFormed c.log.result.now
    (subst WellFormed (sym c.log.ensures.value) c.log.ensures.well_formed) in
    omega (arith, most)
