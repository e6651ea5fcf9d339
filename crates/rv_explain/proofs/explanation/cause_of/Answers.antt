use Rattle.std.proofs.Common.{subst, sym, List, ◌∙◌}
use Rattle.rv_event.specs.Log.{events}
use Rattle.rv_event.specs.declared.event.Entry.{Entry}
use Rattle.rv_cert.specs.Certificates.{Certifies, IsClosedWalk}
use Rattle.rv_explain.proofs.explanation.cause_of.Goals as goal

pub steps_of-requires : goal.steps_of-requires
steps_of-requires c = (
  c.args.forbidden.now.model,
  subst (λ (log : List Entry). IsClosedWalk c.args.forbidden.now.model (events log) c.as_slice.result.now)
      (sym c.evidence-log.ensures.value)
      (subst (IsClosedWalk c.args.forbidden.now.model (events c.args.forbidden.now.evidence)) (sym c.as_slice.ensures)
      (subst (Certifies c.args.forbidden.now.model (events c.args.forbidden.now.evidence))
      (sym c.certificate.ensures.value ∙ c.in-Circle.is)
      c.certificate.ensures.certifies)),
)
