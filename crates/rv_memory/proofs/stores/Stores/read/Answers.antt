use Rattle.std.proofs.Common.{ℕ, ◌≡◌, ◌∙◌, ◌<◌, ◌≤◌, List, All, Some, sym, subst, arith, inl, inr}
use Rattle.std.proofs.Common.{true, false, ltb}
use Rattle.std.proofs.lemmas.Bool.{false≢true}
use Rattle.std.proofs.lemmas.Grind.{common_steps}
use Rattle.rv_log.specs.declared.record.Performed.{Performed}
use Rattle.rv_memory.specs.declared.stores.Effect.{Effect}
use Rattle.rv_memory.specs.Stores.{AreStores, IsEffect}
use Rattle.rv_memory.proofs.Lists.{some-same}
use Rattle.rv_memory.proofs.Reading.{forwarded, from-memory, later-more}
use Rattle.rv_memory.proofs.stores.Stores.read.Goals.{in-Some+in_ok-own+else-own-load, in_default}
use Rattle.rv_memory.proofs.stores.Stores.read.Goals.{then-ended, else-ended}
use Rattle.rv_memory.proofs.stores.Stores.read.Goals as goal

pub returns-in_err-own-clause-waits : goal.returns-in_err-own-clause-waits
returns-in_err-own-clause-waits c = λ log are none. inl (c.in-Some.order, c.in-Some.is, c.in_err-own.ensures log are)

pub returns-then-own-load-clause-read : goal.returns-then-own-load-clause-read
returns-then-own-load-clause-read c = λ log more are order ended.
    forwarded log more c.args.load.now c.in-Some.order c.in-Some.is c.in_ok-own.own (c.in_ok-own.ensures log are)
    c.if-own-load.true

ltb-lt : (m n : ℕ) → ltb m n ≡ true → m < n
ltb-lt m n is = grind (arith, common_steps)

ltb-le : (m n : ℕ) → ltb m n ≡ false → n ≤ m
ltb-le m n is = grind (arith, common_steps)

-- there is no own store, or it took effect before the load
own-earlier : (c : goal.After-version_at) (log : List Performed) → AreStores log c.args.self.now → (order : ℕ) →
    c.args.load.now.own ≡ Some order →
    (effect : Effect) × IsEffect log c.args.load.now.hart order effect × (effect.time ≤ c.args.load.now.time)
own-earlier c log are order own = elim c.match-load.branch [
  | in-Some+in_ok-own+else-own-load w ↦
      (let same = some-same order w.in-Some.order (sym own ∙ w.in-Some.is) in (
        w.in_ok-own.own,
        subst (λ (o : ℕ). IsEffect log c.args.load.now.hart o w.in_ok-own.own) (sym same) (w.in_ok-own.ensures log are),
        w.if-own-load.false,
      ))
  | in_default w ↦ absurd (w.in_default.not-Some order own)
]

pub returns-then-latest-load-clause-read : goal.returns-then-latest-load-clause-read
returns-then-latest-load-clause-read c = λ log more are order ended.
    from-memory log more c.args.load.now c.version_at.result
    (own-earlier c log are)
    (elim c.if-ended.branch [
      | then-ended w ↦ subst (All (λ p. c.args.load.now.time < p.time)) (sym (ended w.if-ended.true))
          (λ k d low. absurd (omega (low, arith)))
      | else-ended w ↦ later-more log more w.latest.result c.args.load.now.time order (w.latest.ensures log are)
          (ltb-lt c.args.load.now.time w.latest.result (sym w.value-is ∙ c.if-latest-load.true))
    ])
    (c.version_at.ensures log are)

pub returns-else-latest-load-clause-waits : goal.returns-else-latest-load-clause-waits
returns-else-latest-load-clause-waits c = λ log are none. elim c.if-ended.branch [
  | then-ended w ↦ absurd (false≢true (sym c.if-latest-load.false ∙ w.value-is ∙ w.if-ended.true))
  | else-ended w ↦ inr (
    w.if-ended.false,
    λ p cp.
        let high = (w.latest.ensures log are).highest p cp in
        let upto = ltb-le c.args.load.now.time w.latest.result (sym w.value-is ∙ c.if-latest-load.false) in
        omega (high, upto, arith),
  )
]
