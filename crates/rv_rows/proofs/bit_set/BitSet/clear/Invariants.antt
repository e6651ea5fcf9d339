use Rattle.std.proofs.Common.{◌≡◌, ℕ, ◌<◌, ◌≤◌, length, get_or}
use Rattle.rv_rows.proofs.bit_set.BitSet.clear.Given as goal

abbrev pub invariant-words : goal.invariant-words
invariant-words l = (length l.self-inside.words.items ≡ length l.initial.self-inside.words.items)
    × ((j : ℕ) → j < l.k → get_or l.self-inside.words.items j 0 ≡ 0)
    × ((j : ℕ) → l.k ≤ j → get_or l.self-inside.words.items j 0 ≡ get_or l.initial.self-inside.words.items j 0)
    × (l.self-inside.low ≡ l.initial.self-inside.low)
    × (l.self-inside.high ≡ l.initial.self-inside.high)
