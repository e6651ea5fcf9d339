use Rattle.std.proofs.Common.{◌≡◌, List, [], ◌∷◌, ◌⊎◌, map, sym, refl, ◌∙◌, subst, ap, inl, inr, arith}
use Rattle.rv_event.proofs.Names.{Contains-cons, Contains-here, Contains-there}
use Rattle.rv_event.specs.declared.event.Event.{Event}
use Rattle.rv_event.specs.declared.event.Id.{Id}
use Rattle.rv_event.specs.declared.reason.Link.{Link}
use Rattle.rv_event.specs.declared.reason.Reason.TheVariants.{Coherence, Preserved}
use Rattle.std.specs.Prelude.{Contains, ℕ}
use Rattle.rv_cover.specs.Thinned.{Names}
use Rattle.rv_event.specs.Log.{events}
use Rattle.rv_event.specs.declared.event.Entry.{Entry}
use Rattle.rv_hart.specs.Kept.{hart_of_log}
use Rattle.rv_hart.specs.Harts.{Hart}
use Rattle.rv_hart.specs.RuleLinks.{AreRuleLinks, AreEnoughLinks}
use Rattle.rv_parts.proofs.hart.follow_without_rules.Goals as goal

abbrev without : List Link → List Link
without links = map (λ (l : Link). record l { reason = Coherence }) links

named-still : (links : List Link) (i : Id) → Names links i → Names (without links) i
named-still [] i (l, c, is) = absurd (let low = c.1 in omega arith)
named-still (x ∷ xs) i (l, c, is) = go (Contains-cons x xs l c) (λ d. named-still xs i (l, d, is))
  where
    go : (x ≡ l) ⊎ Contains xs l → (Contains xs l → Names (without xs) i) → Names (without (x ∷ xs)) i
    go (inl same) again = (
      record x { reason = Coherence },
      Contains-here (record x { reason = Coherence }) (without xs)
          (record x { reason = Coherence }) refl,
      ap (λ (m : Link). m.id) same ∙ is,
    )
    go (inr d) again = let n = again d in
        (n.0, Contains-there (record x { reason = Coherence }) (without xs) n.0 n.1, n.2)

no-rule : (links : List Link) (l : Link) → Contains (without links) l → l.reason ≡ Coherence
no-rule [] l c = absurd (let low = c.1 in omega arith)
no-rule (x ∷ xs) l c = elim (Contains-cons (record x { reason = Coherence }) (without xs) l c) [
  | inl same ↦ ap (λ (m : Link). m.reason) (sym same)
  | inr d ↦ no-rule xs l d
]

differ : (k : ℕ) → Coherence ≡ Preserved k → ⊥
differ k is = cc

enough : (h : Hart) (e : Event) (links : List Link) → AreRuleLinks h e links → AreEnoughLinks h e (without links)
enough h e links are = record {
  rules = λ l k c is. absurd (differ k (sym (no-rule links l c) ∙ is));
  carried = λ k a ca r. elim (are.carried k a ca r) [ inl n ↦ inl (named-still links a.id n) | inr s ↦ inr s ];
}

pub join-requires-clause-linked : goal.join-requires-clause-linked
join-requires-clause-linked g c =
    let h : Hart = hart_of_log (events c.args.lone.now.log.items) c.args.lone.now.hart in
    let are : AreRuleLinks h c.args.event.now c.expect-by_rules.result.items =
    subst (λ (log : List Entry). AreRuleLinks (hart_of_log (events log) c.args.lone.now.hart) c.args.event.now
    c.expect-by_rules.result.items) c.as_slice-log.ensures.value (rw c.expect-by_rules.ensures at c.before-2.ensures) in
    let is : c.as_slice.result.now ≡ without c.expect-by_rules.result.items = c.as_slice.ensures.value ∙
    c.without_rules-links.ensures ∙ ap without c.as_slice-named.ensures.value in
    subst (λ (links : List Link). AreEnoughLinks h c.args.event.now links) (sym is)
    (enough h c.args.event.now c.expect-by_rules.result.items are)
