use Rattle.std.proofs.Common.{◌∙◌, ap, sym, nat_eq, [], refl}
use Rattle.std.specs.Map.{lookup}
use Rattle.std.proofs.lemmas.Option.{none-some}
use Rattle.rv_memory.proofs.Orders.{no-stores}
use Rattle.rv_memory.proofs.stores.Stores.new.Goals as goal

pub invariant_of-result : goal.invariant_of-result
invariant_of-result c = (
  record {
    known = λ address k some.
        absurd (none-some k (sym (ap (lookup (nat_eq address)) c.new.ensures.empty) ∙ some));
    apart = λ address other k some also.
        absurd (none-some k (sym (ap (lookup (nat_eq address)) c.new.ensures.empty) ∙ some));
  },
  ([], no-stores _ c.new.ensures.empty c.new-3.ensures.empty refl),
)
