use Rattle.std.proofs.Common.{◌≡◌, ℕ, ◌<◌, get_or}
use Rattle.rv_rows.proofs.bit_set.BitSet.first_from.Given as goal

-- the words behind the first that were passed are empty
abbrev pub invariant-words : goal.invariant-words
invariant-words l = (j : ℕ) → l.first < j → j < l.k → get_or l.self-inside.words.items j 0 ≡ 0
