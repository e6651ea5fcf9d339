use Rattle.rv_hart.proofs.Common.{◌≡◌, ◌<◌, inl, inr, length, sym, ◌∙◌, subst, arith, DependsOn, Addr, DataOf}
use Rattle.rv_hart.proofs.Common.{IsOwnStore, IsReturned, Event, Hart, hart_at}
use Rattle.rv_hart.proofs.HartFacts.{fits, same_event}
use Rattle.rv_hart.proofs.RuleConditions.{dependent-is, dependent-none}
use Rattle.rv_hart.proofs.next.Next.sources_of_write.Goals as goal

pub returns-in-Some : goal.returns-in-Some
returns-in-Some c =
    let h : Hart = hart_at c.args.self.now in
    let e : Event = c.args.self.now.event.now in
    let f = fits c.requires.asked in
    let own : (w : Event) × IsOwnStore h e w × (w.id.seq ≡ c.in-Some.store) =
    subst (IsReturned h e) c.in-Some.is c.requires.asked.next.returned in
    let w : Event = own.0 in
    let low : w.id.seq < length h.events = f.known.below w own.1.of_hart in
    let at : w.id.seq ≡ c.in-Some.store = own.2 in
    let one = λ (x : Event) (cx : _) (seq : x.id.seq ≡ c.in-Some.store).
    same_event f.known x w cx own.1.of_hart (seq ∙ sym own.2) in
    record {
      says = λ a ca. let is = dependent-is f c.requires.asked.memory w own.1 a ca in (
        λ x. is.0 (elim x [
          | inl y ↦ inl (y.3, subst (λ (z : Event). DependsOn h.events Addr z a) (one y.0 y.1 y.2) y.4)
          | inr y ↦ inr (y.3, subst (λ (z : Event). DependsOn h.events DataOf z a) (one y.0 y.1 y.2) y.4)
        ]),
        λ u. elim (is.1 u) [
          | inl d ↦ inl (w, own.1.of_hart, own.2, d.0, d.1)
          | inr d ↦ inr (w, own.1.of_hart, own.2, d.0, d.1)
        ],
      );
      names_one = omega arith;
      names_other = omega arith;
    }

pub returns-in-None : goal.returns-in-None
returns-in-None c =
    let h : Hart = hart_at c.args.self.now in
    let e : Event = c.args.self.now.event.now in
    let f = fits c.requires.asked in
    let none : (w : Event) → IsOwnStore h e w → ⊥ =
    subst (IsReturned h e) c.in-None.is c.requires.asked.next.returned in
    record {
      says = λ a ca. let is = dependent-none f c.requires.asked.memory none a ca in (
        λ x. elim x [ inl n ↦ absurd n | inr n ↦ absurd n ],
        λ u. absurd (is.1 u),
      );
      names_one = tt;
      names_other = tt;
    }
