use Rattle.rv_explain.specs.RowTexts.{said_by}
use Rattle.rv_explain.proofs.Shows.{AreShownBefore}
use Rattle.rv_explain.proofs.shown.shown_of.Given as goal

abbrev pub invariant-entries : goal.invariant-entries
invariant-entries l = AreShownBefore l.log (said_by l.texts) l.ids l.place l.shown.items
