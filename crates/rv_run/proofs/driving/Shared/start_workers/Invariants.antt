use Rattle.std.specs.Prelude.{◌≡◌, ℕ, ◌+◌, ◌<◌, All, get_or, vec_items, vec_len}
use Rattle.rv_run.proofs.driving.Shared.start_workers.Given as goal

abbrev pub invariant-loop-worker : goal.invariant-loop-worker
invariant-loop-worker g l = (vec_len l.children ≡ l._worker)
    × ((k : ℕ) (h : _) → k < l._worker → ((get_or (vec_items l.children) k h).promise.0.value ≡ l.self.carrier.now) ×
    ((get_or (vec_items l.children) k h).promise.1.value ≡ l.self.cell.now))
    × (vec_len l.seats + l._worker ≡ vec_len l.fn.seats)
    × All (λ s. g.C.Carrier.fits l.self.carrier.now s) (vec_items l.seats)
