-- The hart's number on the word is one more, and no other changes.
use Rattle.std.proofs.Common.{◌≡◌, ◌+◌, ◌∙◌, ℕ, ap, arith}
use Rattle.std.proofs.lemmas.List.Sums.{count_by-le-length}
use Rattle.std.specs.Option.{unwrap_or}
use Rattle.rv_coverage.specs.Shares.{is_on_by, times_by}
use Rattle.rv_coverage.proofs.Pairs.{met-push}
use Rattle.rv_coverage.proofs.sharing.HartCounts.count.Goals as goal

pub returns : goal.returns
returns c = λ log few met.
    let word : ℕ = c.args.event.now.word in
    let hart : ℕ = c.args.event.now.id.hart in
    let u = c.in_ok-insert.ensures.updates in
    let new : ℕ → ℕ → ℕ = times_by (record { counts = c.insert.new.self }) in
    let this : new word hart ≡ times_by c.args.self.now word hart + 1 = ap (λ o. unwrap_or o 0) u.1 ∙ omega (
      arith,
      few,
      met word hart,
      count_by-le-length (is_on_by word hart) log,
      c.times-times.ensures,
      c.saturating_add.ensures,
    ) in
    met-push c.args.event.now log (times_by c.args.self.now) new c.requires met this
    (λ w h apart. ap (λ o. unwrap_or o 0) (u.2 (w, h) apart))
