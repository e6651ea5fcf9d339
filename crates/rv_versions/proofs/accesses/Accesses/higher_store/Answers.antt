use Rattle.rv_versions.proofs.Common.{ℕ, ◌+◌, sym, subst, rules, same_Some, IsNearestAbove}
use Rattle.rv_versions.proofs.Neighbours.{above_some, above_none}
use Rattle.rv_versions.proofs.accesses.Accesses.higher_store.Goals as goal

pub returns-in-Some-first_from : goal.returns-in-Some-first_from
returns-in-Some-first_from c n e =
    subst (λ (m : ℕ). IsNearestAbove c.args.self.now.stores c.args.aside n (m + 1))
    (sym c.from-in-Some-first_from.ensures)
    (above_some c.args.self.now.stores c.from.result n (search (same_Some, rules)) c.args.aside
    c.in-Some-first_from.store c.in-Some-first_from.ensures)

pub returns-in-None : goal.returns-in-None
returns-in-None c n e =
    above_none c.args.self.now.stores c.from.result n (search (same_Some, rules)) c.args.aside c.in-None.ensures
