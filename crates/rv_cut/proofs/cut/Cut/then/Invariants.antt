use Rattle.std.proofs.Common.{ℕ, ◌≡◌, ◌<◌, ◌+◌, ◌≤◌, length, min, slice_index_or}
use Rattle.rv_cut.proofs.cut.Cut.then.Given as goal

-- the numbers of the harts so far are added
pub record AreAdded (l : goal.Live-harts) : Type 0 where
  pub long : length l.firsts ≡ 16
  pub within : l.hart ≤ 16
  pub added : (h : ℕ) → h < l.hart →
      slice_index_or l.firsts h 0 ≡ min (slice_index_or l.self h 0 + slice_index_or l.next-inside.firsts h 0) 4294967295
  pub left : (h : ℕ) → l.hart ≤ h → slice_index_or l.firsts h 0 ≡ slice_index_or l.self h 0

abbrev pub invariant-harts : goal.invariant-harts
invariant-harts l = AreAdded l
