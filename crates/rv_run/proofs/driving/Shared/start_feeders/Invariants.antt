use Rattle.std.specs.Prelude.{◌≡◌, ℕ, ◌+◌, ◌<◌, All, get_or, vec_items, vec_len}
use Rattle.std.specs.Vec.Iter.{into_iter_items, into_iter_len}
use Rattle.rv_run.proofs.driving.Shared.start_feeders.Given as goal

abbrev pub invariant-loop-reader : goal.invariant-loop-reader
invariant-loop-reader g l =
    let done = vec_len l.children in let rest = l.reader-iterator in
    (done + into_iter_len rest ≡ vec_len l.fn.readers)
    × ((k : ℕ) (d : _) → k < into_iter_len rest → get_or (into_iter_items rest) k d ≡ get_or (vec_items l.fn.readers)
    (done + k) d)
    × ((k : ℕ) (h : _) (r : _) → k < done →
    ((get_or (vec_items l.children) k h).promise.0.value ≡ get_or (vec_items l.fn.readers) k r) ×
    ((get_or (vec_items l.children) k h).promise.1.value ≡ l.self.dialect)) × (l.source ≡ done)
    × (vec_len l.seats + done ≡ vec_len l.fn.seats)
    × All (λ s. g.C.Carrier.fits l.self.carrier.now s) (vec_items l.seats)
