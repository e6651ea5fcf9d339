use Rattle.std.proofs.Common.{◌≡◌, ◌+◌, ◌∷◌, ◌++◌, [], List, ℕ, ap, ◌∙◌, sym, arith, suc}
use Rattle.std.specs.List.{range_with_len}
use Rattle.rv_slots.proofs.Numbered.{range-more}
use Rattle.rv_slots.proofs.locked.idle_seats.Goals as goal

pub loop-number-preserved : goal.loop-number-preserved
loop-number-preserved c =
    let n = c.loop-number.number in
    let next : suc n ≡ n + 1 = omega arith in
    let same : 0 + n ≡ n = omega arith in
    c.in_ok-push.ensures.items ∙ ap (λ (l : List ℕ). l ++ n ∷ []) c.loop-number.invariant
    ∙ sym (range-more 0 n n same) ∙ ap (λ (k : ℕ). range_with_len 0 k) next
