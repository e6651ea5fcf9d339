use Rattle.std.proofs.Common.{sym, ◌∙◌}
use Rattle.std.proofs.lemmas.Bool.{false≢true}
use Rattle.rv_explain.proofs.Pairs.{latest-kept, latest-taken}
use Rattle.rv_explain.proofs.latest.later_of.Goals.{else-is_exclusive_before-via-then-is_exclusive_before+else-is_above}
use Rattle.rv_explain.proofs.latest.later_of.Goals.{else-is_exclusive_before-via-else-is_exclusive_before}
use Rattle.rv_explain.proofs.latest.later_of.Goals as goal

pub returns-then-is_above : goal.returns-then-is_above
returns-then-is_above c log is = latest-taken log c.args.sc.now c.args.event.now c.args.latest is
    (c.is_exclusive_before.ensures.0 c.if-is_exclusive_before.true) (c.is_above.ensures.0 c.if-is_above.true)

pub returns-else-is_exclusive_before : goal.returns-else-is_exclusive_before
returns-else-is_exclusive_before c log is =
    latest-kept log c.args.sc.now c.args.event.now c.args.latest is
    (λ before above. elim c.else-is_exclusive_before.branch [
      | else-is_exclusive_before-via-then-is_exclusive_before+else-is_above w ↦
          false≢true (sym w.if-is_above.false ∙ w.is_above.ensures.1 above)
      | else-is_exclusive_before-via-else-is_exclusive_before w ↦
          false≢true (sym w.if-is_exclusive_before.false ∙ c.is_exclusive_before.ensures.1 before)
    ])
