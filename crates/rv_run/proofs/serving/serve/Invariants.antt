use Rattle.rv_verdict.specs.Known.{StillKnows}
use Rattle.rv_run.proofs.serving.serve.Given as goal

abbrev pub invariant-loop : goal.invariant-loop
invariant-loop g l = g.C.Carrier.fits l.carrier l.seat × StillKnows l.fn.note l.note
