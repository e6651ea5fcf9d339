use Rattle.std.proofs.Common.{◌≡◌, ℕ, ◌<◌, ◌+◌, ◌*◌, List, drop, arith, sym, ap, ◌∙◌, subst}
use Rattle.std.specs.List.{flat_map}
use Rattle.std.proofs.Common.{rules}
use Rattle.rv_event.specs.declared.event.Event.{Event}
use Rattle.rv_chunk.specs.Chunks.{event_words, event_of, events_from, two, source_of, number_of, count_of}
use Rattle.rv_chunk.proofs.ChunkFill.{filled, fill_step, read_next, rest_is, all_read}
use Rattle.rv_chunk.proofs.ChunkTest.{length_read}
use Rattle.rv_chunk.proofs.chunk.rewritten.Goals as goal

pub loop-k-preserved : goal.loop-k-preserved
loop-k-preserved c =
    let ws = c.args.words.now in
    let k = c.loop-k.k in
    let short : k < 8 = omega arith in
    let block = c.rewritten_words-block.ensures ∙ ap (λ (v : List ℕ). event_words (event_of v))
    (rest_is ws (2 + 7 * k) c.told-words) in
    let step = fill_step (two (source_of ws) (number_of ws)) (count_of ws) (events_from k (drop 2 ws))
    (event_of (drop (2 + 7 * k) ws)) k c.write_block.new.words c.loop-k.again c.rewritten_words-block.result
    short (length_read k (drop 2 ws)) c.loop-k.invariant block c.write_block.ensures in
    subst (λ (xs : List Event). c.write_block.new.words ≡ filled (two (source_of ws) (number_of ws)) (count_of ws)
    (flat_map event_words xs) (k + 1)) (sym (read_next ws k)) step

pub returns : goal.returns
returns c = search (all_read, rules)
