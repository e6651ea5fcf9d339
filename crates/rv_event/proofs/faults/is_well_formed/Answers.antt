-- The log is well formed as far as it was looked at.
use Rattle.rv_event.proofs.Common.{false≢true, common_steps, sym, ◌∙◌, arith}
use Rattle.rv_event.proofs.Bounded.{length-WellFormed}
use Rattle.rv_event.proofs.Checked.{one_more, none_more}
use Rattle.rv_event.proofs.Pushed.{WellFormed-nil}
use Rattle.rv_event.proofs.faults.is_well_formed.Goals as goal

pub returns-then-log-gt65536 : goal.returns-then-log-gt65536
returns-then-log-gt65536 c = grind (arith, common_steps, false≢true, length-WellFormed)

pub loop-i-init : goal.loop-i-init
loop-i-init c = WellFormed-nil

pub returns-then-is_some : goal.returns-then-is_some
returns-then-is_some c =
    none_more c.args.log.now c.loop-i.i c.index-log-i.result (omega arith) c.index-log-i.is c.find_fault.result
    c.find_fault.ensures (sym c.is_some.ensures ∙ c.if-is_some.true)

pub loop-i-preserved : goal.loop-i-preserved
loop-i-preserved c =
    one_more c.args.log.now c.loop-i.i c.index-log-i.result (omega arith) c.index-log-i.is c.loop-i.invariant
    c.find_fault.result c.find_fault.ensures (sym c.is_some.ensures ∙ c.if-is_some.false)
