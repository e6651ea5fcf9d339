use Rattle.std.proofs.Common.{refl}
use Rattle.std.proofs.lemmas.Result.{on_ok_weaker}
use Rattle.rv_report.proofs.Pieces.{Appends-trans}
use Rattle.rvmon.proofs.ending.report_with.Goals as goal

pub returns-in-Ok : goal.returns-in-Ok
returns-in-Ok g c = on_ok_weaker c.write_text.result
    (λ written. Appends-trans _ _ _ _ _ _ c.in-Ok.ensures.written written refl) c.write_text.ensures.written
