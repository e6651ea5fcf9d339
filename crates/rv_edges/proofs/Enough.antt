-- The links that join a history tell the event's hart enough.
use Rattle.rv_edges.proofs.Common.{common_steps, ◌≡◌, ℕ, ◌<◌, List, None, inl, inr, refl, sym, ap, ◌∙◌, subst}
use Rattle.rv_edges.proofs.Common.{arith, of_hart, Rule, IsPreserved, IsEdge, event_fault, Indexed, named-is, Id}
use Rattle.rv_edges.proofs.Common.{Event, MemoryModel, Reason, Preserved, AnyRule, Reaches, IsSplit, Hart}
use Rattle.rv_edges.proofs.Common.{followed, AreEnoughLinks, own_contains, contains_own, rule_from, any_rule_to}
use Rattle.rv_edges.proofs.Common.{preserved_to, Kept, happened, grown, IsLinked, hart_from}
use Rattle.std.proofs.Common.{rules}
use Rattle.rv_cover.specs.Paths.{one, more}
use Rattle.rv_edges.proofs.HartOfLog.{known', own-new}

-- rules that lead from an event of a hart lead over events of that hart
reaches_to :
    (model : MemoryModel) (log : List Event) (h : ℕ) → Indexed log → (a b : Event) → a.id.hart ≡ h →
    Reaches model log a b → Reaches model (of_hart h log) a b
reaches_to model log h known a b at (one s) = one (any_rule_to model log h known a b at s)
reaches_to model log h known a b at (more {j = j} s p) =
    more (any_rule_to model log h known a j at s) (reaches_to model log h known j b (sym s.1.earlier.hart ∙ at) p)

module _ (model : MemoryModel) (h : List Kept) (k : Kept) (known : Indexed (happened h))
    (sound : event_fault (happened h) k.event ≡ None) (linked : IsLinked model h k) where
  abbrev log : List Event
  log = happened h

  abbrev e : Event
  e = k.event

  abbrev own : Hart
  own = hart_from model log e.id.hart

  abbrev new : List Event
  new = grown h e

  all_known : Indexed new
  all_known = known' model log e known sound

  same_new : of_hart e.id.hart new ≡ followed own e
  same_new = own-new model log e known sound

  -- a rule between ids of the log is one over the hart's events
  rule_is : (i : Id) (j : ℕ) → IsEdge model new i (Preserved j) e.id → IsPreserved model (followed own e) j i e.id
  rule_is i j edge =
      let from : i ≡ edge.a.id = (named-is new i edge.a edge.from_named).1 in
      let to : e.id ≡ edge.b.id = (named-is new e.id edge.b edge.to_named).1 in
      let rule : Rule model new j edge.a edge.b = edge.why in
      let at : i.hart ≡ e.id.hart = grind (arith, common_steps) in
      subst (λ (es : List Event). IsPreserved model es j i e.id) same_new
      (preserved_to model new e.id.hart all_known j i e.id at
      (record { a = edge.a; b = edge.b; first = edge.from_named; second = edge.to_named; rule = rule }))

  -- an event that splits a rule is one of the hart
  split_is : (j : ℕ) (a : Event) → IsSplit model log new (Preserved j) a e → IsSplit model own.events (followed own e)
      (Preserved j) a e
  split_is j a s =
      let last : AnyRule model new s.c e = s.splits.1 in
      let at : s.c.id.hart ≡ e.id.hart = last.1.earlier.hart in
      record {
        c = s.c;
        of_log = contains_own log e.id.hart s.c known s.of_log at;
        splits = (
          reaches_to model log e.id.hart known a s.c (reaches-hart a s.c s.splits.0 ∙ at) s.splits.0,
          subst (λ (es : List Event). AnyRule model es s.c e) same_new
              (any_rule_to model new e.id.hart all_known s.c e at last),
        );
      }
    where
      reaches-hart : (a b : Event) → Reaches model log a b → a.id.hart ≡ b.id.hart
      reaches-hart a b (one s) = s.1.earlier.hart
      reaches-hart a b (more {j = j} s p) = s.1.earlier.hart ∙ reaches-hart j b p

  -- the links into the event are enough for its hart
  pub enough_is : AreEnoughLinks own e k.before
  enough_is = record {
    rules = λ l j c is.
        rule_is l.id j (subst (λ (r : Reason). IsEdge model new l.id r e.id) is
        (linked.listed l.id e.id l.reason (inl (refl, c))));
    carried = λ j a ca rule.
        let rule' : Rule model new j a e = search (rule_from, all_known, same_new, rules) in
        let old = own_contains log e.id.hart a ca in
        elim (linked.carried.into (Preserved j) a old.0 rule'.from_memory rule'.to_memory rule') [
          | inl t ↦ elim t.1 [
            | inl w ↦ inl (record { id = a.id; reason = t.0 }, w.1, refl)
            | inr w ↦ (let less : a.id.seq < e.id.seq = rule'.earlier.seq in
                absurd (omega (arith, less, ap (λ (x : Id). x.seq) w.0)))
          ]
          | inr s ↦ inr (split_is j a s)
        ];
  }
