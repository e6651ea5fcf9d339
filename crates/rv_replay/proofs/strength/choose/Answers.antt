-- There are few places, and each chosen one is the next.
use Rattle.rv_replay.proofs.Common.{◌≡◌, ◌≤◌, ◌<◌, ◌++◌, ◌∷◌, ◌∙◌, [], List, ℕ, arith, ap, get_or, length, rules, sym}
use Rattle.std.proofs.Common.{◌*◌, ◌/◌}
use Rattle.std.proofs.lemmas.List.{get_or_default}
use Rattle.std.proofs.lemmas.List.FromFn.{map-range_with_len_more}
use Rattle.rv_replay.proofs.Strengths.{chosen-below, chosen-small, places_from-few}
use Rattle.rv_replay.proofs.strength.choose.Goals as goal

pub overflow_mul-number : goal.overflow_mul-number
overflow_mul-number c =
    let all : length c.in_ok-places.places.items ≤ 65536 =
    omega (arith, ap (λ (l : List ℕ). length l) c.in_ok-places.ensures, places_from-few 0 c.args.log.now, c.requires) in
    let low : c.loop-i.i ≤ 200 = omega (arith, c.loop-i-test.true, c.min-count.ensures) in
    let few : c.len-in-loop-i.result ≤ 65536 = omega (arith, c.len-in-loop-i.ensures, all) in
    let small = chosen-small c.loop-i.i c.len-in-loop-i.result low few in
    omega (arith, small)

pub loop-i-preserved : goal.loop-i-preserved
loop-i-preserved c =
    let places = c.in_ok-places.places.items in
    let f : ℕ → ℕ = λ i. get_or places (i * length places / c.min-count.result) 0 in
    let few : c.min-count.result ≤ length places = omega (arith, c.min-count.ensures, c.len.ensures) in
    let below : c.loop-i.i * length places / c.min-count.result < length places =
    chosen-below c.loop-i.i c.min-count.result (length places) c.loop-i-test.true few in
    let all : c.len-in-loop-i.result ≡ length places = omega (arith, c.len-in-loop-i.ensures) in
    let found : c.index.result.now ≡ f c.loop-i.i =
    c.index.ensures ∙ ap (λ n. get_or places (c.loop-i.i * n / c.min-count.result) c.index.result.now) all
    ∙ get_or_default places (c.loop-i.i * length places / c.min-count.result) c.index.result.now 0 below in
    let pushed : c.push.new.self.items ≡ c.loop-i.chosen.items ++ c.index.result.now ∷ [] = search rules in
    pushed ∙ ap (λ (n : ℕ). c.loop-i.chosen.items ++ n ∷ []) found
    ∙ ap (λ (l : List ℕ). l ++ f c.loop-i.i ∷ []) c.loop-i.invariant
    ∙ sym (map-range_with_len_more f 0 c.loop-i.i c.loop-i.i (omega arith))
