use Rattle.std.proofs.Common.{◌∙◌, ap, sym, subst}
use Rattle.rv_memory.specs.Stores.{IsEffectOf, Kept, effect_kept}
use Rattle.rv_memory.proofs.stores.Stores.effect_of.Goals as goal

pub returns : goal.returns
returns c = λ log are.
    subst (IsEffectOf log c.args.hart c.args.order)
    (ap (λ (kept : Kept). effect_kept kept c.args.hart c.args.order) (sym c.self.view_is) ∙
    sym (c.copied.ensures ∙ c.get.ensures.value))
    (are.effects c.args.hart c.args.order)
