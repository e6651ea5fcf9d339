use Rattle.std.proofs.Common.{◌≡◌, ℕ, max, ◌-◌, ◌<◌, ◌≤◌, ◌^◌, length, get_or, w64}
use Rattle.std.specs.Prelude.{bit_and}
use Rattle.std.specs.Int.{bit_not}
use Rattle.rv_rows.proofs.row.Row.subtract_words.Given as goal

abbrev pub invariant-words : goal.invariant-words
invariant-words l = (length l.self-inside.words ≡ 64)
    × ((j : ℕ) → l.initial.from ≤ j → j < l.k →
    (get_or l.self-inside.words j 0 ≡ bit_and (get_or l.initial.self-inside.words j 0)
    (bit_not w64 (get_or l.initial.words (j - l.initial.first) 0))) ×
    (get_or l.initial.words (j - l.initial.first) 0 < 2 ^ 64))
    × ((j : ℕ) → j < l.initial.from → get_or l.self-inside.words j 0 ≡ get_or l.initial.self-inside.words j 0)
    × ((j : ℕ) → l.k ≤ j → get_or l.self-inside.words j 0 ≡ get_or l.initial.self-inside.words j 0)
    × (l.k ≤ max l.initial.from l.initial.to) × (l.self-inside.low ≡ l.initial.self-inside.low)
    × (l.self-inside.high ≡ l.initial.self-inside.high)
    × (l.left ≡ 0 → (j : ℕ) → l.initial.from ≤ j → j < l.k → get_or l.self-inside.words j 0 ≡ 0)
