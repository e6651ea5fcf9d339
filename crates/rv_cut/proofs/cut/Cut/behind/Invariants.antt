use Rattle.std.proofs.Common.{length, take, ℕ, ◌≡◌}
use Rattle.rv_event.specs.Log.{events, of_hart}
use Rattle.rv_cut.specs.Cuts.{first_of}
use Rattle.rv_cut.proofs.cut.Cut.behind.Given as goal

abbrev pub invariant-loop-entry : goal.invariant-loop-entry
invariant-loop-entry l =
    (length l.firsts ≡ 16)
    × ((hart : ℕ) → first_of l.firsts hart ≡ length (of_hart hart (events (take l.entry-index l.log))))
