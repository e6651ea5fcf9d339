use Rattle.std.proofs.Common.{◌≡◌, ℕ, ◌<◌, get_or}
use Rattle.rv_rows.proofs.row.Row.shared_with.Given as goal

abbrev pub invariant-words : goal.invariant-words
invariant-words l = (j : ℕ) → j < l.k → get_or l.initial.words j 0 ≡ get_or l.initial.self-inside.words j 0
