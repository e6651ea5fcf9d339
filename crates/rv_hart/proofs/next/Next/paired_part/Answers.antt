use Rattle.rv_hart.proofs.Common.{◌≡◌, ◌<◌, ◌↔◌, IsTrue, length, sym, ap, ◌∙◌, subst, arith, rules, tests, Sc}
use Rattle.rv_hart.proofs.Common.{HasEvent, IsReserving, IsReservation, One, Event, Hart, hart_at}
use Rattle.rv_hart.proofs.HartFacts.{fits, same_event}
use Rattle.rv_hart.proofs.RuleConditions.{paired-is, paired-none}
use Rattle.rv_hart.proofs.TableParts.{tested}
use Rattle.rv_hart.proofs.next.Next.paired_part.Goals as goal

pub returns-in-Some : goal.returns-in-Some
returns-in-Some c =
    let h : Hart = hart_at c.args.self.now in
    let e : Event = c.args.self.now.event.now in
    let f = fits c.requires.asked in
    let lr : HasEvent (IsReserving h.events) h.events c.in-Some.lr =
    subst (IsReservation h.events) c.in-Some.is c.requires.asked.next.kept.sets.reserved in
    let test : IsTrue c.eq.result ↔ (e.op ≡ Sc) = search (rules, tests) in
    let low : lr.a.id.seq < length h.events = f.known.below lr.a lr.of_list in
    let at : lr.a.id.seq ≡ c.in-Some.lr = lr.at in
    tested h e 8 c.eq.result (One c.in-Some.lr) c.part_if.result (e.op ≡ Sc) c.part_if.ensures test (λ a ca.
    let is = paired-is f lr.a lr.of_list lr.holds a ca in (
      λ x. is.0 (x.0, same_event f.known lr.a a lr.of_list ca (lr.at ∙ sym x.1)),
      λ u. ((is.1 u).0, sym (ap (λ (y : Event). y.id.seq) (is.1 u).1) ∙ lr.at),
    ))
    (omega arith)

pub returns-in-None : goal.returns-in-None
returns-in-None c =
    let h : Hart = hart_at c.args.self.now in
    let f = fits c.requires.asked in
    let none : (a : Event) → _ = subst (IsReservation h.events) c.in-None.is c.requires.asked.next.kept.sets.reserved in
    record { says = paired-none f none; names = tt }
