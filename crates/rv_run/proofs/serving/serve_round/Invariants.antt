use Rattle.rv_verdict.specs.Known.{StillKnows}
use Rattle.rv_run.proofs.serving.serve_round.Given as goal

abbrev pub invariant-loop-index : goal.invariant-loop-index
invariant-loop-index g l = g.C.Carrier.fits l.carrier l.seat × StillKnows l.fn.note l.note
