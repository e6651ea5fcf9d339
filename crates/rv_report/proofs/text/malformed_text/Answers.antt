use Rattle.std.proofs.Common.{sym}
use Rattle.rv_report.proofs.Refused.{refused_text_of_last}
use Rattle.rv_report.proofs.text.malformed_text.Goals as goal

pub returns : goal.returns
returns c =
    let e = refused_text_of_last _ _ c.refused-refused.ensures in
    rw (e, sym c.evidence.ensures.value, sym c.fault-fault.ensures, sym c.number-number.ensures)
    c.in_ok-format.ensures.ok
