use Rattle.std.proofs.Common.{ℕ, ◌≡◌, ◌↔◌, ◌⊎◌, ◌<◌, ◌≤◌, ◌-◌, IsTrue}
use Rattle.std.specs.HashSet.{contains, spare}
use Rattle.rv_past.specs.Gone.{same_version}
use Rattle.rv_past.proofs.facts.pull.Given as goal

-- the versions up to the last one were taken out of the set
pub record Pulled (l : goal.Live-following) : Type 0 where
  pub least : l.fn.version ≤ l.last
  pub pulled : (w v : ℕ) → IsTrue (contains same_version l.fn.above (w, v))
      ↔ (IsTrue (contains same_version l.above (w, v)) ⊎ ((w ≡ l.fn.word) × (l.fn.version < v) × (v ≤ l.last)))
  pub room : spare l.fn.above ≤ spare l.above

abbrev pub invariant-following : goal.invariant-following
invariant-following l = Pulled l

abbrev pub decreases-following : goal.decreases-following
decreases-following l = 4294967295 - l.last
