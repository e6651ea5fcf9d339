-- By the kind of the operation.
use Rattle.std.proofs.Common.{◌≡◌, ◌∙◌, ◌↔◌, ◌⊎◌, inl, inr, ap, sym, subst, List, Option, Some, Contains}
use Rattle.rv_insn.specs.Listing.{listing}
use Rattle.rv_insn.specs.Roles.{Carries, CarriesBy, CarriesCsr}
use Rattle.rv_insn.specs.declared.insn.Insn.{Insn}
use Rattle.rv_insn.specs.declared.unit.Unit.{Unit}
use Rattle.rv_insn.specs.declared.usage.CsrUse.{CsrUse}
use Rattle.rv_insn.specs.declared.usage.CsrUse.TheVariants.{NoCsr, Swap, Change}
use Rattle.rv_insn.specs.declared.usage.Usage.{Usage}
use Rattle.rv_insn.proofs.roles.carried_to.Goals as goal

module _ (i : Insn) (usage : Usage) (of : usage ≡ listing i.operation) (p to : Unit) (xs : List (Option Unit)) where
  by-kind : (kind : CsrUse) → usage.csr ≡ kind → Contains xs (Some p) ↔ CarriesBy kind i p to →
      Contains xs (Some p) ↔ Carries i p to
  by-kind kind is says = subst (λ (k : CsrUse). Contains xs (Some p) ↔ CarriesBy k i p to)
      (sym is ∙ ap (λ (u : Usage). u.csr) of) says

  by-csr : (usage.csr ≡ Swap) ⊎ (usage.csr ≡ Change) → Contains xs (Some p) ↔ CarriesCsr i p to →
      Contains xs (Some p) ↔ Carries i p to
  by-csr (inl is) says = by-kind Swap is says
  by-csr (inr is) says = by-kind Change is says

pub returns-in-NoCsr : goal.returns-in-NoCsr
returns-in-NoCsr c p = by-kind c.args.insn c.usage_of-usage.result c.usage_of-usage.ensures p c.args.to
    c.carried_over.result NoCsr c.in-NoCsr.is (c.carried_over.ensures p)

pub returns-in-Swap : goal.returns-in-Swap
returns-in-Swap c p = by-csr c.args.insn c.usage_of-usage.result c.usage_of-usage.ensures p c.args.to
    c.carried_csr.result c.in-Swap.is (c.carried_csr.ensures p)
