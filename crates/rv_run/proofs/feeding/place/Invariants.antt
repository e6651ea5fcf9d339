use Rattle.rv_run.proofs.feeding.place.Given as goal

abbrev pub invariant-loop : goal.invariant-loop
invariant-loop g l = g.C.Carrier.fits l.carrier l.seat
