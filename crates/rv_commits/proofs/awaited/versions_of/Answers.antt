use Rattle.std.proofs.Common.{ℕ, ◌++◌, List, arith, refl, subst, sym}
use Rattle.rv_log.specs.declared.record.Performed.{Performed}
use Rattle.rv_memory.specs.Stores.{IsEffect}
use Rattle.rv_memory.specs.declared.stores.Effect.{Effect}
use Rattle.rv_memory.proofs.Reading.{effect-more}
use Rattle.rv_commits.specs.Awaited.{AreVersions, IsWaiting, Wrote}
use Rattle.rv_commits.specs.declared.awaited.Awaited.{Awaited}
use Rattle.rv_commits.proofs.awaited.versions_of.Goals as goal

pub returns-in_err-effect-in-Store-clause-waits : goal.returns-in_err-effect-in-Store-clause-waits
returns-in_err-effect-in-Store-clause-waits c = λ log are none.
    subst (λ (a : Awaited). IsWaiting log c.args.hart a c.args.ended) (sym c.in-Store.is)
    (c.in_err-effect-in-Store.ensures log are)

pub returns-in_err-read-in-Load-clause-waits : goal.returns-in_err-read-in-Load-clause-waits
returns-in_err-read-in-Load-clause-waits c = λ log are none.
    subst (λ (a : Awaited). IsWaiting log c.args.hart a c.args.ended) (sym c.in-Load.is)
    (c.in_err-read-in-Load.ensures.waits log are refl)

pub returns-in_err-wrote-in-Amo-clause-waits : goal.returns-in_err-wrote-in-Amo-clause-waits
returns-in_err-wrote-in-Amo-clause-waits c = λ log are none.
    subst (λ (a : Awaited). IsWaiting log c.args.hart a c.args.ended) (sym c.in-Amo.is)
    (c.in_err-wrote-in-Amo.ensures log are)

-- what an own store wrote, however the log goes on
wrote : (log more : List Performed) (hart order : ℕ) (effect : Effect) → IsEffect log hart order effect →
    Wrote (log ++ more) hart order effect.version
wrote log more hart order effect is = (effect, effect-more log more hart order effect is, refl)

pub returns-in_ok-effect-in-Store-clause-versions : goal.returns-in_ok-effect-in-Store-clause-versions
returns-in_ok-effect-in-Store-clause-versions c = λ log more are order ended.
    let effect : Effect = c.in_ok-effect-in-Store.effect in
    subst (λ (a : Awaited). AreVersions (log ++ more) c.args.hart a (record { read = 0; wrote = effect.version }))
    (sym c.in-Store.is)
    (refl, wrote log more c.args.hart c.in-Store.order effect (c.in_ok-effect-in-Store.ensures log are))

pub returns-in_ok-wrote-in-Amo-clause-versions : goal.returns-in_ok-wrote-in-Amo-clause-versions
returns-in_ok-wrote-in-Amo-clause-versions c = λ log more are order ended.
    let effect : Effect = c.in_ok-wrote-in-Amo.field-0 in
    let is = c.in_ok-wrote-in-Amo.ensures log are in
    subst (λ (a : Awaited). AreVersions (log ++ more) c.args.hart a
    (record { read = c.saturating_sub.result; wrote = effect.version })) (sym c.in-Amo.is)
    (omega (c.saturating_sub.ensures, is.version, arith), wrote log more c.args.hart c.in-Amo.order effect is)
