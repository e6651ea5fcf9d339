-- The place is below 32.
use Rattle.std.proofs.Common.{ap, arith, sym, ℕ, ◌<◌, ◌==◌, ◌∙◌, ◌≡◌}
use Rattle.rv_cut.proofs.Places.{one-there}
use Rattle.rv_cut.proofs.bars.Later.mark.Goals.{in-Loads, in-Stores}
use Rattle.rv_cut.specs.Marked.{place_for}
use Rattle.rv_cut.proofs.bars.Later.mark.Goals as goal

pub returns : goal.returns
returns c = λ k.
    let is : c.match-self.place ≡ place_for c.args.hart c.args.self = elim c.match-self.branch [
      | in-Loads w ↦ w.place-is ∙ sym (ap (place_for c.args.hart) w.in-Loads.is)
      | in-Stores w ↦ w.place-is ∙ sym (ap (place_for c.args.hart) w.in-Stores.is)
    ] in
    let low : c.match-self.place < 32 = elim c.match-self.branch [
      | in-Loads w ↦ (let at = w.place-is in let hart = c.requires in omega (arith, at, hart))
      | in-Stores w ↦ (let at = w.place-is in let hart = c.requires in omega (arith, at, hart))
    ] in
    one-there c.match-self.place k low ∙ ap (λ (n : ℕ). k == n) is
