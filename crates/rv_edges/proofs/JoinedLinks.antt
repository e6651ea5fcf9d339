-- The links by rules and those by versions are together as a history wants them.
use Rattle.rv_edges.proofs.Common.{common_steps, ◌≡◌, ◌≢◌, ℕ, ◌<◌, Bool, true, false, List, [], ◌∷◌, ◌++◌}
use Rattle.rv_edges.proofs.Common.{Contains, None, length, ◌⊎◌, inl, inr, refl, sym, ap, ◌∙◌, subst, arith}
use Rattle.rv_edges.proofs.Common.{false≢true, Contains-append_left, Contains-append_right, Contains-append_cases}
use Rattle.rv_edges.proofs.Common.{IsMemory, of_hart, Rule, IsPreserved, IsEdge, IsLowest, HasReason, event_fault}
use Rattle.rv_edges.proofs.Common.{Indexed, sound_of, named-is, edge-push, Id, Event, MemoryModel, Link, Reason}
use Rattle.rv_edges.proofs.Common.{Preserved, Coherence, ReadsFrom, FromRead, AtomicIn, AtomicOut, AnyRule}
use Rattle.rv_edges.proofs.Common.{IsSplit, Names, Lists, IsUnsplit, IsNearest, Hart, followed, AreRuleLinks}
use Rattle.rv_edges.proofs.Common.{own_contains, contains_own, rule_to, any_rule_to, any_rule_from, reaches_from}
use Rattle.rv_edges.proofs.Common.{preserved_from, lowest_from, IsOfVersions, AreVersionLinks, Kept, happened}
use Rattle.rv_edges.proofs.Common.{grown, IsLinked, hart_from}
use Rattle.std.proofs.Common.{rules}
use Rattle.rv_edges.proofs.HartOfLog.{known', own-new}

-- whether a reason is a rule
abbrev is_rule : Reason → Bool
is_rule (Preserved k) = true
is_rule Coherence = false
is_rule ReadsFrom = false
is_rule FromRead = false
is_rule AtomicIn = false
is_rule AtomicOut = false

of_versions : (reason : Reason) → is_rule reason ≡ false → IsOfVersions reason
of_versions reason plain k is = false≢true (sym plain ∙ ap is_rule is)

-- a reason is a rule, or it is of versions
kinds : (reason : Reason) → ((k : ℕ) × (reason ≡ Preserved k)) ⊎ IsOfVersions reason
kinds (Preserved k) = inl (k, refl)
kinds Coherence = inr (of_versions Coherence refl)
kinds ReadsFrom = inr (of_versions ReadsFrom refl)
kinds FromRead = inr (of_versions FromRead refl)
kinds AtomicIn = inr (of_versions AtomicIn refl)
kinds AtomicOut = inr (of_versions AtomicOut refl)

-- what is no rule is the lowest for want of another
lowest_of_versions : (model : MemoryModel) (log : List Event) (i : Id) (reason : Reason) (j : Id) →
    IsOfVersions reason → IsLowest model log i reason j
lowest_of_versions model log i reason j h = grind (arith, common_steps)

module _ (model : MemoryModel) (log : List Event) (e : Event) (known : Indexed log) (sound : event_fault log e ≡ None)
    (rules others before after : List Link)
    (joined : before ≡ rules ++ others) (by_rules : AreRuleLinks (hart_from model log e.id.hart) e rules)
    (by_versions : AreVersionLinks model log e others after) where
  abbrev own : Hart
  own = hart_from model log e.id.hart

  abbrev new : List Event
  new = log ++ e ∷ []

  all_known : Indexed new
  all_known = known' model log e known sound

  same_new : of_hart e.id.hart new ≡ followed own e
  same_new = own-new model log e known sound

  left : (l : Link) → Contains rules l → Contains before l
  left l c = subst (λ (ls : List Link). Contains ls l) (sym joined) (Contains-append_left rules others l c)

  right : (l : Link) → Contains others l → Contains before l
  right l c = subst (λ (ls : List Link). Contains ls l) (sym joined) (Contains-append_right rules others l c)

  sides : (l : Link) → Contains before l → Contains rules l ⊎ Contains others l
  sides l c = Contains-append_cases rules others l (subst (λ (ls : List Link). Contains ls l) joined c)

  preserved_is : (k : ℕ) (i : Id) → IsPreserved model (followed own e) k i e.id → IsPreserved model new k i e.id
  preserved_is k i p = grind (arith, common_steps, preserved_from, all_known, same_new)

  -- a link by a rule names an earlier event of the hart
  hart_of_link : (l : Link) → Contains rules l → l.id.hart ≡ e.id.hart
  hart_of_link l c =
      let p = (by_rules.rules l c).preserved in
      ap (λ (i : Id). i.hart) (named-is (followed own e) l.id p.a p.first).1 ∙ p.rule.earlier.hart ∙
      ap (λ (i : Id). i.hart) (sym (named-is (followed own e) e.id p.b p.second).1)

  edge_before : (l : Link) → Contains before l → IsEdge model new l.id l.reason e.id
  edge_before l c = elim (sides l c) [
    | inl r ↦ (
        let is = by_rules.rules l r in
        let p = preserved_is is.rule l.id is.preserved in
        subst (λ (x : Reason). IsEdge model new l.id x e.id) (sym is.reason)
        (record {
          a = p.a;
          b = p.b;
          from_named = p.first;
          to_named = p.second;
          from_memory = p.rule.from_memory;
          to_memory = p.rule.to_memory;
          why = p.rule;
        }))
    | inr v ↦ by_versions.edges_before l v
  ]

  lowest_before : (l : Link) → Contains before l → IsLowest model new l.id l.reason e.id
  lowest_before l c = elim (sides l c) [
    | inl r ↦ (
        let is = by_rules.rules l r in
        let low = subst (λ (x : Reason). IsLowest model (followed own e) l.id x e.id) is.reason (by_rules.lowest l r) in
        subst (λ (x : Reason). IsLowest model new l.id x e.id) (sym is.reason)
        (lowest_from model new e.id.hart all_known is.rule l.id e.id (hart_of_link l r)
        (subst (λ (es : List Event). IsLowest model es l.id (Preserved is.rule) e.id) (sym same_new) low)))
    | inr v ↦ lowest_of_versions model new l.id l.reason e.id (by_versions.reasons_before l v)
  ]

  other_before : (l : Link) → Contains before l → l.id ≢ e.id
  other_before l c same = elim (sides l c) [
    | inl r ↦ (
        let p = (by_rules.rules l r).preserved in
        let less : p.a.id.seq < p.b.id.seq = p.rule.earlier.seq in
        let at : p.a.id.seq ≡ p.b.id.seq = grind (arith, common_steps) in
        omega (arith, less, at))
    | inr v ↦ by_versions.other_before l v same
  ]

  -- a rule into the event is one over the hart's events
  rule_own : (k : ℕ) (a : Event) → Rule model new k a e → Rule model (followed own e) k a e
  rule_own k a r = subst (λ (es : List Event). Rule model es k a e) same_new
      (rule_to model new e.id.hart all_known k a e r.earlier.hart r)

  any_rule_own : (a b : Event) → a.id.hart ≡ e.id.hart → AnyRule model new a b → AnyRule model (followed own e) a b
  any_rule_own a b at r = subst (λ (es : List Event). AnyRule model es a b) same_new
      (any_rule_to model new e.id.hart all_known a b at r)

  split_is : (k : ℕ) (a : Event) → IsSplit model own.events (followed own e) (Preserved k) a e →
      IsSplit model log new (Preserved k) a e
  split_is k a s = record {
    c = s.c;
    of_log = (own_contains log e.id.hart s.c s.of_log).0;
    splits = (
      reaches_from model log e.id.hart known a s.c s.splits.0,
      any_rule_from model new e.id.hart all_known s.c e
          (subst (λ (es : List Event). AnyRule model es s.c e) (sym same_new) s.splits.1),
    );
  }

  carried_into : (reason : Reason) (a : Event) → Contains log a → IsMemory a → IsMemory e →
      HasReason model new reason a e → Names before a.id ⊎ IsSplit model log new reason a e
  carried_into reason a ca ma me why = go (kinds reason)
    where
      by_rule : (k : ℕ) → Rule model new k a e → Names before a.id ⊎ IsSplit model log new (Preserved k) a e
      by_rule k r = elim (by_rules.carried k a (contains_own log e.id.hart a known ca r.earlier.hart) (rule_own
          k a r)) [ inl n ↦ inl (n.0, left n.0 n.1, n.2) | inr s ↦ inr (split_is k a s) ]

      go : ((k : ℕ) × (reason ≡ Preserved k)) ⊎ IsOfVersions reason → Names before a.id ⊎
          IsSplit model log new reason a e
      go (inl w) =
          subst (λ (x : Reason). Names before a.id ⊎ IsSplit model log new x a e) (sym w.1)
          (by_rule w.0 (subst (λ (x : Reason). HasReason model new x a e) w.1 why))
      go (inr v) = elim (by_versions.carried_before reason a v ca ma me why) [
        | inl n ↦ inl (n.0, right n.0 n.1, n.2)
        | inr s ↦ inr s
      ]

  -- no rule leads from the new event to an old one
  none_after : (k : ℕ) (b : Event) → Contains log b → Rule model new k e b → ⊥
  none_after k b cb r =
      let less : e.id.seq < b.id.seq = r.earlier.seq in
      let low : b.id.seq < length (of_hart b.id.hart log) = known.below b cb in
      let low' : b.id.seq < length (of_hart e.id.hart log) = grind (arith, common_steps) in
      let at : e.id.seq ≡ length (of_hart e.id.hart log) = (sound_of log e sound).seq in
      omega (arith, less, low', at)

  carried_out : (reason : Reason) (b : Event) → Contains log b → IsMemory e → IsMemory b →
      HasReason model new reason e b → Names after b.id ⊎ IsSplit model log new reason e b
  carried_out reason b cb me mb why = elim (kinds reason) [
    | inl w ↦ absurd (none_after w.0 b cb (subst (λ (x : Reason). HasReason model new x e b) w.1 why))
    | inr v ↦ by_versions.carried_after reason b v cb me mb why
  ]

  -- no listed rule is split by another event
  pub unsplit_is : IsUnsplit model log e before
  unsplit_is k a c ca cc lists first second = elim (sides (record { id = a.id; reason = Preserved k }) lists) [
    | inl r ↦ (
        let at : c.id.hart ≡ e.id.hart = second.1.earlier.hart in
        let from : a.id.hart ≡ e.id.hart = first.1.earlier.hart ∙ at in
        by_rules.unsplit k a c (contains_own log e.id.hart a known ca from) (contains_own log e.id.hart c known cc at) r
        (any_rule_own a c from first) (any_rule_own c e at second))
    | inr v ↦ by_versions.reasons_before (record { id = a.id; reason = Preserved k }) v k refl
  ]

  -- what is no rule is listed by its version
  by_version : (a : Event) (reason : Reason) → is_rule reason ≡ false → Lists before a reason → Lists others a reason
  by_version a reason plain lists = elim (sides (record { id = a.id; reason = reason }) lists) [
    | inl r ↦ (let is = by_rules.rules (record { id = a.id; reason = reason }) r in
        absurd (of_versions reason plain is.rule is.reason))
    | inr v ↦ v
  ]

  -- coherence and from-read go to the nearest versions
  pub nearest_is : IsNearest log e before after
  nearest_is = record {
    coherence_before = λ s c lists. by_versions.nearest.coherence_before s c (by_version s Coherence refl lists);
    coherence_after = by_versions.nearest.coherence_after;
    from_read_after = by_versions.nearest.from_read_after;
    from_read_before = λ a s ca cs lists. by_versions.nearest.from_read_before a s ca cs
        (by_version a FromRead refl lists);
  }

-- all together, as a history wants it
pub linked_with :
    (model : MemoryModel) (h : List Kept) (k : Kept) (rules others : List Link) → Indexed (happened h) →
    event_fault (happened h) k.event ≡ None →
    k.before ≡ rules ++ others → AreRuleLinks (hart_from model (happened h) k.event.id.hart) k.event rules →
    AreVersionLinks model (happened h) k.event others k.after → IsLinked model h k
linked_with model h k rules others known sound joined by_rules by_versions =
    let log = happened h in
    let e = k.event in
    let g = grown h e in
    record {
      listed = λ i j r q. elim q [
        | inl w ↦ subst (λ (x : Id). IsEdge model g i r x) (sym w.0)
            (edge_before model log e known sound rules others k.before k.after joined by_rules by_versions
            (record { id = i; reason = r }) w.1)
        | inr w ↦ subst (λ (x : Id). IsEdge model g x r j) (sym w.0)
            (by_versions.edges_after (record { id = j; reason = r }) w.1)
      ];
      lowest = λ i j r q. elim q [
        | inl w ↦ subst (λ (x : Id). IsLowest model g i r x) (sym w.0)
            (lowest_before model log e known sound rules others k.before k.after joined by_rules by_versions
            (record { id = i; reason = r }) w.1)
        | inr w ↦ subst (λ (x : Id). IsLowest model g x r j) (sym w.0)
            (lowest_of_versions model g e.id r j (by_versions.reasons_after (record { id = j; reason = r }) w.1))
      ];
      other = λ i j r q p. elim q [
        | inl w ↦ other_before model log e known sound rules others k.before k.after joined by_rules by_versions
            (record { id = i; reason = r }) w.1 (p ∙ w.0)
        | inr w ↦ by_versions.other_after (record { id = j; reason = r }) w.1 (sym p ∙ w.0)
      ];
      carried = record {
        into = λ reason a ca ma me why. elim
            (carried_into model log e known sound rules others k.before k.after joined by_rules by_versions reason a
            ca ma me why) [
              | inl n ↦ inl (
                n.0.reason,
                inl (
                  refl,
                  subst (λ (i : Id). Contains k.before (record { id = i; reason = n.0.reason })) n.2 n.1,
                ),
              )
              | inr s ↦ inr s
            ];
        out = λ reason b cb me mb why. elim
            (carried_out model log e known sound rules others k.before k.after joined by_rules by_versions reason b
            cb me mb why) [
              | inl n ↦ inl (
                n.0.reason,
                inr (
                  refl,
                  subst (λ (i : Id). Contains k.after (record { id = i; reason = n.0.reason })) n.2 n.1,
                ),
              )
              | inr s ↦ inr s
            ];
      };
      ended = λ i j r edge. edge-push model log e known (sound_of log e sound) i j r edge;
    }
