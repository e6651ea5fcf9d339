use Rattle.std.proofs.Common.{◌<◌, List, [], ◌∷◌, take, length, arith, sym, subst}
use Rattle.std.specs.Prelude.{All}
use Rattle.std.proofs.lemmas.List.{length-take-le}
use Rattle.std.proofs.lemmas.List.Elements.{All-append, All-cons, All-nil}
use Rattle.std.proofs.lemmas.Grind.{common_steps}
use Rattle.rv_event.specs.declared.event.Event.{Event}
use Rattle.rv_chunk.specs.Chunks.{two, IsTyped}
use Rattle.rv_chunk.proofs.ChunkFill.{fill_step, take_next}
use Rattle.rv_chunk.proofs.chunk.text_of.Goals as goal

pub loop-k-preserved : goal.loop-k-preserved
loop-k-preserved c =
    let es = c.args.events.now in
    let k = c.loop-k.k in
    let e = c.index-events-k.result in
    let within : k < length es = omega arith in
    let short : k < 8 = omega arith in
    let more = take_next es k e within c.index-events-k.is in
    let step = fill_step (two c.args.source c.args.number) (length es) (take k es) e k c.write_block.new.words
    c.loop-k.words c.event_words-block.result
    short (length-take-le k es (omega arith)) c.loop-k.invariant.words c.event_words-block.ensures.words
    c.write_block.ensures in
    record {
      words = grind (arith, common_steps);
      typed = subst (λ (xs : List Event). All IsTyped xs) (sym more)
          (All-append IsTyped (take k es) (e ∷ []) c.loop-k.invariant.typed
          (All-cons IsTyped e [] c.event_words-block.ensures.typed (All-nil IsTyped)));
    }
