-- The chunk that was found was answered, and its lease given up, as the turn says.
use Rattle.std.proofs.Common.{Bool, subst}
use Rattle.rv_slots.specs.declared.carrier.Looked.TheVariants as looked
use Rattle.rv_run.proofs.serving.serve_slot.Goals as goal

pub returns-in-Found-clause-served : goal.returns-in-Found-clause-served
returns-in-Found-clause-served g c =
    let finished = g.C.Carrier.finishes c.args.carrier.now c.in-Found.lease in (
      looked.Found c.in-Found.chunk c.in-Found.lease,
      c.in-Found.ensures.looks,
      (
        c.offer_chunk.result,
        c.offer_chunk.ensures.answers,
        c.settle-turn.ensures.turn,
        subst (λ (b : Bool). finished b c.finish_chunk-seat.result) c.is_applied.ensures
            c.finish_chunk-seat.ensures.finishes,
      ),
    )
