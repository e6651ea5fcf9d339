use Rattle.rv_hart.proofs.Common.{◌≡◌, ◌<◌, ◌⊎◌, ◌↔◌, IsTrue, length, sym, ap, ◌∙◌, subst, arith, common_steps}
use Rattle.rv_hart.proofs.Common.{Amo, Sc, IsOwnStore, IsReturned, One, Event, Hart, hart_at}
use Rattle.rv_hart.proofs.HartFacts.{fits, same_event}
use Rattle.rv_hart.proofs.RuleConditions.{atomic-is, atomic-none}
use Rattle.rv_hart.proofs.TableParts.{tested}
use Rattle.rv_hart.proofs.next.Next.atomic_part.Goals as goal

pub at-store-requires : goal.at-store-requires
at-store-requires c =
    let h : Hart = hart_at c.args.self.now in
    let e : Event = c.args.self.now.event.now in
    let f = fits c.requires.asked in
    let own : (w : Event) × IsOwnStore h e w × (w.id.seq ≡ c.in-Some.number) =
    subst (IsReturned h e) c.in-Some.is c.requires.asked.next.returned in
    let low : own.0.id.seq < length h.events = f.known.below own.0 own.1.of_hart in
    let at : own.0.id.seq ≡ c.in-Some.number = own.2 in
    omega arith

pub returns-in-Some : goal.returns-in-Some
returns-in-Some c =
    let h : Hart = hart_at c.args.self.now in
    let e : Event = c.args.self.now.event.now in
    let f = fits c.requires.asked in
    let own : (w : Event) × IsOwnStore h e w × (w.id.seq ≡ c.in-Some.number) =
    subst (IsReturned h e) c.in-Some.is c.requires.asked.next.returned in
    let w : Event = own.0 in
    let same : c.at-store.result.now ≡ w = grind (arith, common_steps) in
    let test : IsTrue c.is_atomic.result ↔ ((w.op ≡ Amo) ⊎ (w.op ≡ Sc)) =
    subst (λ (x : Event). IsTrue c.is_atomic.result ↔ ((x.op ≡ Amo) ⊎ (x.op ≡ Sc))) same c.is_atomic.ensures in
    let low : w.id.seq < length h.events = f.known.below w own.1.of_hart in
    let at : w.id.seq ≡ c.in-Some.number = own.2 in
    tested h e 3 c.is_atomic.result (One c.in-Some.number) c.part_if.result ((w.op ≡ Amo) ⊎ (w.op ≡ Sc))
    c.part_if.ensures test (λ a ca.
    let is = atomic-is f c.requires.asked.memory w own.1 a ca in (
      λ x. is.0 (x.0, same_event f.known w a own.1.of_hart ca (own.2 ∙ sym x.1)),
      λ u. ((is.1 u).0, sym (ap (λ (y : Event). y.id.seq) (is.1 u).1) ∙ own.2),
    ))
    (omega arith)

pub returns-in-None : goal.returns-in-None
returns-in-None c =
    let h : Hart = hart_at c.args.self.now in
    let e : Event = c.args.self.now.event.now in
    let f = fits c.requires.asked in
    let none : (w : Event) → IsOwnStore h e w → ⊥ =
    subst (IsReturned h e) c.in-None.is c.requires.asked.next.returned in
    record { says = atomic-none f c.requires.asked.memory none; names = tt }
