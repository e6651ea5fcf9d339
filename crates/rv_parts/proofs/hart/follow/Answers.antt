use Rattle.std.proofs.Common.{◌≡◌, List, ℕ, sym, ◌∙◌, subst}
use Rattle.rv_event.specs.Preserved.{IsPreserved}
use Rattle.rv_event.specs.declared.event.Event.{Event}
use Rattle.rv_event.specs.declared.reason.Link.{Link}
use Rattle.rv_event.specs.declared.reason.Reason.TheVariants.{Preserved}
use Rattle.rv_event.specs.Log.{events}
use Rattle.rv_event.specs.declared.event.Entry.{Entry}
use Rattle.rv_hart.specs.Kept.{hart_of_log}
use Rattle.rv_hart.specs.Harts.{Hart, followed}
use Rattle.rv_hart.specs.RuleLinks.{IsRuleLink, AreRuleLinks, AreEnoughLinks}
use Rattle.rv_parts.proofs.hart.follow.Goals as goal

the_rule : (h : Hart) (e : Event) (l : Link) (k : ℕ) → IsRuleLink h e l → l.reason ≡ Preserved k →
    IsPreserved h.model (followed h e) k l.id e.id
the_rule h e l k x is =
    let again : Preserved x.rule ≡ Preserved k = sym x.reason ∙ is in
    let same : x.rule ≡ k = cc in
    subst (λ (n : ℕ). IsPreserved h.model (followed h e) n l.id e.id) same x.preserved

links-enough : (h : Hart) (e : Event) (links : List Link) → AreRuleLinks h e links → AreEnoughLinks h e links
links-enough h e links are = record {
  rules = λ l k c is. the_rule h e l k (are.rules l c) is;
  carried = are.carried;
}

pub join-requires-clause-linked : goal.join-requires-clause-linked
join-requires-clause-linked g c =
    let h : Hart = hart_of_log (events c.args.lone.now.log.items) c.args.lone.now.hart in
    let are : AreRuleLinks h c.args.event.now c.expect-links.result.items =
    subst (λ (log : List Entry). AreRuleLinks (hart_of_log (events log) c.args.lone.now.hart) c.args.event.now
    c.expect-links.result.items) c.as_slice-log.ensures.value (rw c.expect-links.ensures at c.before-2.ensures) in
    subst (λ (links : List Link). AreEnoughLinks h c.args.event.now links) (sym c.as_slice.ensures.value)
    (links-enough h c.args.event.now c.expect-links.result.items are)
