use Rattle.rv_book.proofs.Common.{arith, common_steps, length, ap, sym, subst, ◌∙◌, rules, Booked, IsMalformedOn}
use Rattle.rv_book.proofs.Common.{IsForbiddenOn}
use Rattle.rv_book.proofs.TakenEvents.{within-stops}
use Rattle.rv_book.proofs.book.Book.offer_all.Goals as goal

pub loop-event-init : goal.loop-event-init
loop-event-init c = grind (arith, common_steps)

pub unreachable-requires : goal.unreachable-requires
unreachable-requires c = search rules

pub returns-in-NoMemory-clause-no_memory : goal.returns-in-NoMemory-clause-no_memory
returns-in-NoMemory-clause-no_memory c =
    let told = rw c.in-NoMemory.is at c.take.ensures.unjudged in
    let steps = rw c.in-Some.is at c.next.ensures.steps in (
      ap (λ (b : Booked). b.stopped) told ∙ c.loop-event.invariant.0,
      (
        length c.loop-event.yielded,
        c.in-Some.event,
        within-stops c.args.self.now c.loop-event.self c.take.new.self c.args.source c.loop-event.yielded _ _
            c.args.events.items c.in-Some.event _
            c.loop-event.invariant.1 steps.0 (ap (λ (b : Booked). b.model) told) (ap (λ (b : Booked). b.log) told),
      ),
    )

pub returns-in-Malformed-clause-halted : goal.returns-in-Malformed-clause-halted
returns-in-Malformed-clause-halted c =
    let told = rw c.in-Malformed.is at c.take.ensures.refused in
    let refusal = rw c.in-Malformed.is at c.take.ensures.malformed in
    let steps = rw c.in-Some.is at c.next.ensures.steps in (
      ap (λ (b : Booked). b.stopped) told,
      (
        length c.loop-event.yielded,
        c.in-Some.event,
        within-stops c.args.self.now c.loop-event.self c.take.new.self c.args.source c.loop-event.yielded _ _
            c.args.events.items c.in-Some.event _
            c.loop-event.invariant.1 steps.0 (ap (λ (b : Booked). b.model) told) (ap (λ (b : Booked). b.log) told),
        subst (λ (b : Booked). IsMalformedOn b.model b.log (record { source = c.args.source; event = c.in-Some.event })
            c.in-Malformed.malformed) (sym told) refusal,
      ),
    )

pub returns-in-Forbidden-clause-halted : goal.returns-in-Forbidden-clause-halted
returns-in-Forbidden-clause-halted c =
    let told = rw c.in-Forbidden.is at c.take.ensures.refused in
    let refusal = rw c.in-Forbidden.is at c.take.ensures.forbidden in
    let steps = rw c.in-Some.is at c.next.ensures.steps in (
      ap (λ (b : Booked). b.stopped) told,
      (
        length c.loop-event.yielded,
        c.in-Some.event,
        within-stops c.args.self.now c.loop-event.self c.take.new.self c.args.source c.loop-event.yielded _ _
            c.args.events.items c.in-Some.event _
            c.loop-event.invariant.1 steps.0 (ap (λ (b : Booked). b.model) told) (ap (λ (b : Booked). b.log) told),
        subst (λ (b : Booked). IsForbiddenOn b.model b.log (record { source = c.args.source; event = c.in-Some.event })
            c.in-Forbidden.forbidden) (sym told) refusal,
      ),
    )

pub loop-event-preserved : goal.loop-event-preserved
loop-event-preserved c = grind (arith, common_steps)

pub returns-clause-applied : goal.returns-clause-applied
returns-clause-applied c = grind (arith, common_steps)
