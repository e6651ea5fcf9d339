-- The certificate that the type keeps makes the refusal final.
use Rattle.std.proofs.Common.{subst}
use Rattle.rv_cert.specs.Refusals.{Refusal, IsFinal}
use Rattle.rv_cert.proofs.Final.{final_from_refusal}
use Rattle.rv_cert.proofs.forbidden.Forbidden.evidence.Goals as goal

pub returns-clause-is_final : goal.returns-clause-is_final
returns-clause-is_final c =
    let f : Refusal = record {
      model = c.self.inside.model;
      evidence = c.self.inside.evidence;
      certificate = c.self.inside.certificate;
    } in
    subst (λ (w : Refusal). IsFinal w.model w.evidence) c.self.view_is (final_from_refusal f c.self.invariant)
