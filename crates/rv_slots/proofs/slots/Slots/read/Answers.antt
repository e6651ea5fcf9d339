use Rattle.rv_slots.proofs.Common.{◌≡◌, length, arith, ap, ◌∙◌, List, ℕ, Option, true≢false, common_steps}
use Rattle.rv_slots.proofs.Common.{pin_words, pinned_view}
use Rattle.rv_slots.specs.declared.seats.Pinned.{Pinned}
use Rattle.rv_slots.proofs.Loops.{put_all, pin_words_is}
use Rattle.rv_slots.proofs.slots.Slots.read.Goals as goal

long_is : (f : Pinned) → length (pin_words (pinned_view f).records) ≡ 58
long_is f = ap (λ (l : List (Option ℕ)). length l) (pin_words_is (pinned_view f) f.pinned.records)
    ∙ f.pinned.long

pub of_text-requires : goal.of_text-requires
of_text-requires c = grind (arith, common_steps, put_all, long_is, true≢false)

pub returns-clause-read : goal.returns-clause-read
returns-clause-read c =
    let f = c.loop-place.pinned in
    let i = c.loop-place.invariant in
    let all = put_all (pin_words (pinned_view f).records) c.loop-place.words c.loop-place.place
    c.loop-place-test.false c.loop-place.auto.place-end (long_is f) i.2 i.1 in
    (all.0, all.1 ∙ c.of_text.ensures, i.4, i.5, i.6)
