use Rattle.std.proofs.Common.{◌≡◌, false}
use Rattle.rv_explain.specs.RowTexts.{said_by}
use Rattle.rv_where.proofs.Going.{AreGoing}
use Rattle.rv_where.proofs.lines.take_lines.Given as goal

abbrev pub invariant-lines : goal.invariant-lines
invariant-lines g l =
    (l.rows.stopped ≡ false)
    × AreGoing l.before (said_by l.fn.texts) l.fn.rows.left (said_by l.texts) l.rows.left
