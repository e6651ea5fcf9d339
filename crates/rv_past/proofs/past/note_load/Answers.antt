use Rattle.rv_past.proofs.Stored.{other-key}
use Rattle.rv_past.specs.Gone.{with_load}
use Rattle.rv_past.proofs.past.note_load.Goals as goal

pub returns-in-Ok-clause-noted : goal.returns-in-Ok-clause-noted
returns-in-Ok-clause-noted c =
    with_load (c.is_load.ensures.0 c.if-is_load.true) c.in-Ok.ensures.updates.1
    (λ w v apart. c.in-Ok.ensures.updates.2 (w, v)
    (other-key c.args.event.now.word w c.args.event.now.read v apart))
