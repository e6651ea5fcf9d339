use Rattle.std.proofs.Common.{◌+◌, ◌*◌, List, [], ◌∷◌, ◌++◌, drop, sym, ap, ◌∙◌}
use Rattle.rv_chunk.specs.Chunks.{event_of, events_from}
use Rattle.rv_event.specs.declared.event.Event.{Event}
use Rattle.rv_chunk.proofs.ChunkFill.{read_next, rest_is}
use Rattle.rv_chunk.proofs.chunk.unpack.Goals as goal

pub loop-k-preserved : goal.loop-k-preserved
loop-k-preserved c =
    let ws = c.chunk.inside.words in
    let k = c.loop-k.k in
    let e = c.in_ok-event.ensures ∙ ap event_of (rest_is ws (2 + 7 * k) c.chunk.told) in
    c.in_ok-push.ensures.items ∙ (ap (λ (xs : List Event). xs ++ c.in_ok-event.event ∷ []) c.loop-k.invariant
    ∙ (ap (λ (x : Event). events_from k (drop 2 ws) ++ x ∷ []) e ∙ sym (read_next ws k)))
