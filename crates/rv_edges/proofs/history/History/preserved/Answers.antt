-- The entries that are kept have the events of the history.
use Rattle.rv_edges.proofs.Common.{arith, common_steps, ℕ, ◌<◌, List, IfSome, IfNone, ap, subst, IsPreserved}
use Rattle.rv_edges.proofs.Common.{Event, MemoryModel, Past, happened}
use Rattle.rv_edges.proofs.history.History.preserved.Goals as goal

pub returns-clause-some : goal.returns-clause-some
returns-clause-some c = grind (arith, common_steps)

pub returns-clause-lowest : goal.returns-clause-lowest
returns-clause-lowest c =
    subst (λ (m : MemoryModel). IfSome c.lowest_rule.result
    (λ k. (j : ℕ) → j < k → IsPreserved m (happened c.args.self.now.kept) j c.args.a c.args.b → ⊥))
    (ap (λ (w : Past). w.model) c.self.view_is)
    (subst (λ (es : List Event). IfSome c.lowest_rule.result
    (λ k. (j : ℕ) → j < k → IsPreserved c.self.inside.model es j c.args.a c.args.b → ⊥)) c.entries.ensures.events
    c.lowest_rule.ensures.lowest)

pub returns-clause-none : goal.returns-clause-none
returns-clause-none c =
    subst (λ (m : MemoryModel). IfNone c.lowest_rule.result
    ((k : ℕ) → IsPreserved m (happened c.args.self.now.kept) k c.args.a c.args.b → ⊥))
    (ap (λ (w : Past). w.model) c.self.view_is)
    (subst (λ (es : List Event). IfNone c.lowest_rule.result
    ((k : ℕ) → IsPreserved c.self.inside.model es k c.args.a c.args.b → ⊥)) c.entries.ensures.events
    c.lowest_rule.ensures.none)
