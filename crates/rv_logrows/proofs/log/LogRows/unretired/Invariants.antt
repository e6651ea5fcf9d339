use Rattle.std.proofs.Common.{ℕ, ◌<◌, ◌≤◌, get_or}
use Rattle.rv_logrows.specs.Log.{retired_of}
use Rattle.rv_logrows.proofs.log.LogRows.unretired.Given as goal

abbrev pub invariant-harts : goal.invariant-harts
invariant-harts l = (h : ℕ) → h < l.hart → get_or l.self.past h 0 ≤ retired_of l.self h
