-- Rules 1 and 2 are decided by themselves, each other one by the two parts of its line of the table.
use Rattle.rv_hart.proofs.Common.{ℕ, ◌↔◌, ◌∙◌, IsTrue, rules, subst, sym, overlapping_store_at}
use Rattle.rv_hart.proofs.Common.{ConditionOf, Event, Hart, hart_at}
use Rattle.rv_hart.proofs.HartFacts.{fits, number-few}
use Rattle.rv_hart.proofs.Listings.{reads-decide}
use Rattle.rv_hart.proofs.next.Next.is_condition.Goals as goal

pub returns-then-rule-eq1 : goal.returns-then-rule-eq1
returns-then-rule-eq1 c = search (overlapping_store_at, rules)

pub has-requires : goal.has-requires
has-requires c = number-few (fits c.requires.asked).known c.args.met.now c.requires.met.of_hart

pub returns-then-rule-eq2 : goal.returns-then-rule-eq2
returns-then-rule-eq2 c =
    let h : Hart = hart_at c.args.self.now in
    let e : Event = c.args.self.now.event.now in
    let decides = reads-decide (fits c.requires.asked) c.requires.asked.memory c.args.self.now.kept.now.rows
    c.requires.asked.next.kept.rows c.args.reads.now c.requires.reads c.args.met.now c.requires.met
    c.requires.apart in
    subst (λ (k : ℕ). IsTrue c.has.result ↔ ConditionOf h e k c.args.met.now) (sym c.if-rule-eq2.true)
    (λ t. decides.0 (sym c.has.ensures ∙ t), λ x. c.has.ensures ∙ decides.1 x)
