use Rattle.rv_endless.specs.Runs.{misfit_number}
use Rattle.rv_endless.specs.Steps.{IsExplained, IsToldInFull}
use Rattle.rv_endless.specs.declared.answer.Answer.{Answer}
use Rattle.rv_endless.specs.declared.answer.Answer.TheVariants.{Malformed}
use Rattle.rv_event.specs.Texts.{fault_number}
use Rattle.rv_event.specs.declared.fault.Fault.{Fault}
use Rattle.rv_past.specs.declared.facts.Misfit.{Misfit}
use Rattle.std.proofs.Common.{ℕ, ◌≡◌, ◌∙◌, ◌<◌, List, Option, Some, ap, arith, subst, sym}
use Rattle.rv_endless.proofs.run.explain_misfit.Goals as goal

-- the fault over the window comes first
told-first : (firsts : List ℕ) (hart : ℕ) (m : Misfit) (found : Option Fault) (f : Fault)
    (told : Answer) → found ≡ Some f → fault_number f < misfit_number m →
    IsToldInFull firsts hart f told → IsExplained firsts hart m found told
told-first firsts hart m found f told at less full =
    subst (λ (o : Option Fault). IsExplained firsts hart m o told) (sym at) (
      (λ _. full),
      (λ most. absurd (omega (arith, less, most))),
    )

pub returns-in-Some : goal.returns-in-Some
returns-in-Some c =
    let less = c.if-number-number_of.true in
    let number = c.number.ensures in
    let other = c.number_of.ensures in
    told-first c.args.firsts.now c.args.moved.now.event.id.hart c.args.misfit _ c.in-Some.fault _
    (sym c.find_fault.ensures ∙ c.in-Some.is) (omega (arith, less, number, other))
    (λ fits. ap Malformed (c.full_fault.ensures fits))
