use Rattle.rv_slots.proofs.Common.{ℕ, ap, ◌∙◌, rules, is_chunk_text, put_in, published, filling_view}
use Rattle.rv_slots.proofs.Loops.{put_all}
use Rattle.rv_slots.proofs.slots.Slots.fill.Goals as goal

pub publish-requires-clause-whole : goal.publish-requires-clause-whole
publish-requires-clause-whole c = search (put_all, rules)

pub publish-requires-clause-text : goal.publish-requires-clause-text
publish-requires-clause-text c =
    let f = c.loop-place.filling in
    ap is_chunk_text (put_all (put_in (filling_view f).state) c.args.words.now c.loop-place.place
    c.loop-place-test.false c.loop-place.auto.place-end f.fills.long c.told-words
    c.loop-place.invariant.1).1 ∙ c.requires.text

pub returns-clause-filled : goal.returns-clause-filled
returns-clause-filled c =
    let f = c.loop-place.filling in
    let i = c.loop-place.invariant in
    let all = put_all (put_in (filling_view f).state) c.args.words.now c.loop-place.place
    c.loop-place-test.false c.loop-place.auto.place-end f.fills.long c.told-words i.1 in
    let found = c.publish.ensures.0 in (
      filling_view f,
      i.2,
      all.0,
      all.1,
      found,
      c.publish.ensures.1 ∙ ap (λ (k : ℕ). published (filling_view f) k found) i.3,
    )
