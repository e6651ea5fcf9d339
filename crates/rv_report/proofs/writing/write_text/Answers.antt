use Rattle.std.proofs.Common.{rules}
use Rattle.rv_report.proofs.Pieces.{Appends-trans, piece_bound, piece_more}
use Rattle.rv_report.proofs.writing.write_text.Goals as goal

pub loop-written-preserved : goal.loop-written-preserved
loop-written-preserved g c = search (piece_bound, Appends-trans, piece_more, rules)
