use Rattle.std.proofs.lemmas.List.Elements.{All-take}
use Rattle.rv_run.proofs.driving.take_seat.Goals as goal

pub returns-clause-fits : goal.returns-clause-fits
returns-clause-fits g c = rw c.pop.ensures.rest
    (All-take (λ s. g.C.Carrier.fits c.args.carrier.now s) _ _ c.requires.fits)
