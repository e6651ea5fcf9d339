use Rattle.std.proofs.Common.{List, subst, sym}
use Rattle.rv_event.specs.Log.{events}
use Rattle.rv_event.specs.declared.event.Entry.{Entry}
use Rattle.rv_explain.proofs.Causes.{cause-some}
use Rattle.rv_explain.proofs.Shows.{shown-hart}
use Rattle.rv_explain.specs.RowTexts.{said_by}
use Rattle.rv_explain.specs.Explaining.{IsCauseOf}
use Rattle.rv_explain.proofs.explanation.explain.Goals as goal

pub refused_of-refused-requires : goal.refused_of-refused-requires
refused_of-refused-requires c =
    cause-some c.evidence-log.result.now c.args.forbidden.now.certificate c.in_ok-cause.cause
    (subst (λ (log : List Entry). IsCauseOf (events log) c.args.forbidden.now.certificate c.in_ok-cause.cause)
    (sym c.evidence-log.ensures.value) c.in_ok-cause.ensures)

pub columns_of-requires : goal.columns_of-requires
columns_of-requires c = shown-hart c.evidence-log.result.now c.args.forbidden.now.evidence
    (said_by c.args.texts.now) c.as_slice.result.now c.in_ok-shown.shown.items c.as_slice-2.result.now
    c.evidence-log.ensures.well_formed c.evidence-log.ensures.value c.as_slice-2.ensures.value c.in_ok-shown.ensures
