use Rattle.std.proofs.Common.{sym, refl}
use Rattle.rv_report.proofs.Refused.{refused_text_of_last}
use Rattle.rv_report.proofs.text.forbidden_text.Goals as goal

pub returns : goal.returns
returns c =
    let e = refused_text_of_last _ _ c.refused-refused.ensures in
    rw (e, sym c.evidence.ensures.value, sym c.certificate.ensures.value, c.in_ok-push_certificate.ensures)
    (rw c.in_ok-text.ensures.ok refl)
