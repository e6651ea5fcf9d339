use Rattle.std.proofs.Common.{◌∙◌, ◌≤◌, sym, subst, List}
use Rattle.rv_log.specs.declared.record.Performed.{Performed}
use Rattle.rv_memory.specs.Stores.{AreStores, IsNext, Kept}
use Rattle.rv_memory.proofs.Orders.{issued, next-is, unissued}
use Rattle.rv_memory.proofs.stores.Stores.push.Goals.{After-of_word}
use Rattle.rv_memory.proofs.stores.Stores.push.Goals as goal

pub returns-then-is_some-clause-refused : goal.returns-then-is_some-clause-refused
returns-then-is_some-clause-refused c = λ log are.
    issued log c.args.store.hart c.args.store.order c.effect_of.result (c.effect_of.ensures log are)
    (sym c.is_some.ensures ∙ c.if-is_some.true)

next : (c : After-of_word) (log : List Performed) → AreStores log c.args.self.now → IsNext log c.args.store
next c log are =
    let later : c.args.self.now.latest ≤ c.args.store.time =
    subst (λ (kept : Kept). kept.latest ≤ c.args.store.time) c.self.view_is c.if-store-self.false in
    next-is log c.args.self.now c.args.store are later
    (unissued log c.args.store.hart c.args.store.order c.effect_of.result (c.effect_of.ensures log are)
    (sym c.is_some.ensures ∙ c.if-is_some.false))
    (c.is_written_at.ensures.free log are c.if-is_written_at.false later)

pub add-requires-clause-next : goal.add-requires-clause-next
add-requires-clause-next c = next (goal.at.add-requires-clause-next c).After-of_word

pub returns-in-Ok-clause-taken : goal.returns-in-Ok-clause-taken
returns-in-Ok-clause-taken c = λ log are.
    let added = c.in-Ok.ensures.taken log are in
    (next (goal.at.returns-in-Ok-clause-taken c).After-of_word log are, added.0, added.1)
