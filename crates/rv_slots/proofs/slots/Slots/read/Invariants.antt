use Rattle.rv_slots.proofs.Common.{◌≡◌, ◌<◌, length, drop, pinned_view, IsSamePinned, pin_words, IsText}
use Rattle.rv_slots.proofs.Loops.{HasWords}
use Rattle.rv_slots.proofs.slots.Slots.read.Given as goal

abbrev pub invariant-loop-place : goal.invariant-loop-place
invariant-loop-place l = IsSamePinned l.fn.pinned l.pinned
    × HasWords (pin_words (pinned_view l.pinned).records) l.words l.place × (length l.words ≡ 58)
    × (0 < l.place → IsText (pin_words (pinned_view l.pinned).records))
    × (drop 1 (pinned_view l.pinned).records ≡ drop 1 (pinned_view l.fn.pinned).records)
    × ((pinned_view l.pinned).dones ≡ (pinned_view l.fn.pinned).dones)
    × ((pinned_view l.pinned).frees ≡ (pinned_view l.fn.pinned).frees)
