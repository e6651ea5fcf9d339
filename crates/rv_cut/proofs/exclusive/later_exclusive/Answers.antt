-- The one with the higher number is the last.
use Rattle.rv_cut.proofs.Exclusives.{last-new}
use Rattle.rv_cut.specs.Exclusives.{IsLastExclusive}
use Rattle.rv_event.specs.declared.event.Event.{Event}
use Rattle.std.proofs.Common.{Bor, None, Option, Some, subst, sym, ◌≤◌}
use Rattle.std.proofs.lemmas.Option.{none-some, same_Some}
use Rattle.std.specs.Option.{option_copied}
use Rattle.rv_cut.proofs.exclusive.later_exclusive.Goals as goal

pub returns-in_default : goal.returns-in_default
returns-in_default c = λ log before.
    last-new log c.args.hart c.args.event.now None c.if-event-hart.false (sym c.if-not-is_exclusive.ensures)
    (subst (λ (o : Option (Bor Event)). IsLastExclusive log c.args.hart (option_copied o)) c.in_default.is before)
    (λ l is. absurd (none-some l is))

pub returns-else-event-before : goal.returns-else-event-before
returns-else-event-before c = λ log before.
    last-new log c.args.hart c.args.event.now (Some c.in-Some.before.now) c.if-event-hart.false
    (sym c.if-not-is_exclusive.ensures)
    (subst (λ (o : Option (Bor Event)). IsLastExclusive log c.args.hart (option_copied o)) c.in-Some.is before)
    (λ l is. subst (λ (x : Event). x.id.seq ≤ c.args.event.now.id.seq) (same_Some c.in-Some.before.now l is)
    c.if-event-before.false)
