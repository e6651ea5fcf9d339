use Rattle.std.proofs.Common.{◌≡◌, ℕ, ◌<◌, ◌≤◌, get_or}
use Rattle.rv_rows.proofs.row.Row.highest_below.Given as goal

-- the words from the place on are empty
abbrev pub invariant-words : goal.invariant-words
invariant-words l = (j : ℕ) → l.k ≤ j → j < l.top → get_or l.self-inside.words j 0 ≡ 0
