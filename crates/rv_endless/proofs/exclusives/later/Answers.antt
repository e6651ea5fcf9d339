-- The one with the higher number is the last.
use Rattle.rv_endless.proofs.LastForgotten.{new-of}
use Rattle.rv_endless.specs.Exclusives.{IsLastOf}
use Rattle.rv_endless.specs.declared.exclusives.Exclusive.{Exclusive}
use Rattle.std.proofs.Common.{None, Option, Some, refl, rules, subst, ◌≡◌, ◌≤◌}
use Rattle.std.proofs.lemmas.Option.{none-some, same_Some}
use Rattle.rv_event.specs.Faults.{is_lr}
use Rattle.rv_endless.proofs.exclusives.later.Goals as goal

pub returns-in_default : goal.returns-in_default
returns-in_default c = λ gone exclusive before.
    let lr : is_lr c.args.event.now.op ≡ c.eq-is_lr.result = search rules in
    new-of gone c.args.event.now (Some c.in-Some.known) _ refl lr exclusive
    (λ k is. subst (λ (l : Exclusive). l.seq ≤ c.args.event.now.id.seq) (same_Some c.in-Some.known k is)
    c.if-seq-known.false)
    (subst (λ (o : Option Exclusive). IsLastOf gone c.args.event.now.id.hart o) c.in-Some.is before)

pub returns-in_default-2 : goal.returns-in_default-2
returns-in_default-2 c = λ gone exclusive before.
    let lr : is_lr c.args.event.now.op ≡ c.eq-is_lr.result = search rules in
    new-of gone c.args.event.now None _ refl lr exclusive (λ k is. absurd (none-some k is))
    (subst (λ (o : Option Exclusive). IsLastOf gone c.args.event.now.id.hart o) c.in_default.is before)
