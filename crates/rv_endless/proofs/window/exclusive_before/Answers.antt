-- The numbers that were passed are of none, and so the one below them is the last.
use Rattle.rv_endless.proofs.Partners.{NoneWithin, last-before, none-less}
use Rattle.rv_cut.specs.Exclusives.{IsLastExclusive}
use Rattle.rv_event.proofs.Scans.{event-at}
use Rattle.rv_event.specs.Log.{events}
use Rattle.rv_event.specs.Operations.{is_exclusive}
use Rattle.rv_event.specs.declared.event.Entry.{Entry}
use Rattle.std.proofs.Common.{ℕ, Some, ◌≡◌, ◌<◌, ◌∙◌, ◌-◌, ap, arith, length, subst, sym}
use Rattle.rv_endless.proofs.window.exclusive_before.Goals as goal

pub later-init : goal.later-init
later-init c = (omega arith, λ s low high. absurd (omega (arith, low, high)))

pub returns-then-is_exclusive : goal.returns-then-is_exclusive
returns-then-is_exclusive c = λ known most.
    subst (λ (x : Entry). IsLastExclusive (events c.args.log.now) c.args.next.hart (Some x.event)) c.index-log-rest.is
    (last-before (events c.args.log.now) c.args.next.hart c.later.number c.args.next.seq
    c.index-log-rest.result.event known most
    (event-at c.args.log.now (c.later.rest - 1) inside c.index-log-rest.result c.index-log-rest.is)
    (ap (λ (x : Entry). x.event.id.hart) c.index-log-rest.is ∙ c.if-event-next.true)
    (let number = ap (λ (x : Entry). x.event.id.seq) c.index-log-rest.is ∙ c.if-event-number.false in
    let some = c.if-number-eq0.false in omega (arith, number, some))
    (ap (λ (x : Entry). is_exclusive x.event.op) c.index-log-rest.is ∙ sym c.is_exclusive.ensures
    ∙ c.if-is_exclusive.true) c.later.invariant.1)
  where
    inside : c.later.rest - 1 < length c.args.log.now
    inside = let some = c.later-test.true in let low = c.later.invariant.0 in omega (arith, some, low)

pub later-preserved-then-event-next : goal.later-preserved-then-event-next
later-preserved-then-event-next c = (
  (let low = c.later.invariant.0 in omega (arith, low)),
  subst (λ (n : ℕ). NoneWithin (events c.args.log.now) c.args.next.hart n c.args.next.seq) number
      (none-less (events c.args.log.now) c.args.next.hart c.later.number c.args.next.seq
      c.index-log-rest.result.event
      (event-at c.args.log.now (c.later.rest - 1) inside c.index-log-rest.result c.index-log-rest.is)
      (ap (λ (x : Entry). x.event.id.hart) c.index-log-rest.is ∙ c.if-event-next.true)
      (let some = c.if-number-eq0.false in omega (arith, number, some))
      (ap (λ (x : Entry). is_exclusive x.event.op) c.index-log-rest.is ∙ sym c.is_exclusive.ensures
      ∙ c.if-is_exclusive.false) c.later.invariant.1),
)
  where
    inside : c.later.rest - 1 < length c.args.log.now
    inside = let some = c.later-test.true in let low = c.later.invariant.0 in omega (arith, some, low)

    number : c.index-log-rest.result.event.id.seq ≡ c.later.number - 1
    number = ap (λ (x : Entry). x.event.id.seq) c.index-log-rest.is ∙ c.if-event-number.false
