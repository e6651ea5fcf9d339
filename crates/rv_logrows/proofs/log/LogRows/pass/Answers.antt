use Rattle.std.proofs.Common.{ℕ, ◌≤◌, ◌<◌, ◌++◌, ◌∷◌, [], get_or, set, subst, sym}
use Rattle.rv_logrows.proofs.Kept.{past-more, past-still}
use Rattle.rv_logrows.specs.Log.{IsPast}
use Rattle.rv_logrows.proofs.log.LogRows.pass.Goals as goal

pub returns-then-self-hart-clause-past : goal.returns-then-self-hart-clause-past
returns-then-self-hart-clause-past c = λ performed is.
    subst (λ (n : ℕ). IsPast (performed ++ c.args.store.now ∷ []) (set c.args.self.now.past c.args.store.now.hart n))
    (sym c.requires.order)
    (past-more performed c.args.self.now.past is c.args.store.now c.requires.hart
    (subst (λ (n : ℕ). get_or c.args.self.now.past c.args.store.now.hart 0 < n) c.requires.order c.if-self-hart.true))

pub returns-else-self-hart-clause-past : goal.returns-else-self-hart-clause-past
returns-else-self-hart-clause-past c = λ performed is.
    past-still performed c.args.self.now.past is c.args.store.now c.requires.hart
    (subst (λ (n : ℕ). n ≤ get_or c.args.self.now.past c.args.store.now.hart 0) c.requires.order c.if-self-hart.false)
