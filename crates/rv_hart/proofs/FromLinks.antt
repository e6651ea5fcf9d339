-- The row of a new event from the links into it.
use Rattle.rv_hart.proofs.Common.{◌≡◌, ℕ, ◌+◌, ◌<◌, ◌||◌, ◌↔◌, List, [], ◌∷◌, ◌++◌, length, get_or, take}
use Rattle.rv_hart.proofs.Common.{Contains, ◌⊎◌, inl, inr, sym, refl, ap, ◌∙◌, arith, subst, ◌==◌, ◌≤◌, false}
use Rattle.rv_hart.proofs.Common.{zero, suc, All, or_cases, or_left, or_right, take_more, Contains-push_cases}
use Rattle.rv_hart.proofs.Common.{Contains-push, All-contains, common_steps, rules, IsMemory, Rule, Id, Event}
use Rattle.rv_hart.proofs.Common.{Link, Preserved, Has, has_bit, RowHas, Reaches, IsSplit, Names, reaches-earlier}
use Rattle.rv_hart.proofs.Common.{Hart, followed, hart_with, IsLinked, HaveRows, HasOwn, IsOrderedBy, IsBefore}
use Rattle.rv_hart.proofs.Common.{RowsMean, AreEnoughLinks}
use Rattle.rv_hart.proofs.HartFacts.{Known, Fits, same_event, old_new}
use Rattle.rv_hart.proofs.RowMeanings.{LastStep, last_step, Leads, leads-rule, leads-grows, leads-settled}
use Rattle.rv_hart.proofs.RowMeanings.{rows_closed, rule-old, end_is}
use Rattle.rv_hart.proofs.Listings.{ordered_of}

-- the row has what the old one has and what the links say
abbrev pub IsJoined : List (List ℕ) → List Link → List ℕ → List ℕ → Type 0
IsJoined rows links old row = (s : ℕ) → Has row s ↔ (Has old s ⊎ IsLinked rows links s)

-- before the first link nothing was joined
pub joined-none : (rows : List (List ℕ)) (row : List ℕ) → IsJoined rows [] row row
joined-none rows row s = grind (arith, common_steps)

module _ (rows : List (List ℕ)) (links : List Link) (i : ℕ) (l : Link) (low : i < length links)
    (at : l ≡ get_or links i l) (old row : List ℕ) (so : IsJoined rows (take i links) old row) where
  taken : take (i + 1) links ≡ take i links ++ l ∷ []
  taken = take_more links i l low ∙ ap (λ (x : Link). take i links ++ x ∷ []) (sym at)

  grown : (s : ℕ) → IsLinked rows (take i links) s → IsLinked rows (take (i + 1) links) s
  grown s x = grind (arith, common_steps)

  parts : (m : Link) → Contains (take (i + 1) links) m → Contains (take i links) m ⊎ (l ≡ m)
  parts m c = Contains-push_cases (take i links) l m (subst (λ (ls : List Link). Contains ls m) taken c)

  -- a link by a rule
  pub joined-more : (k : ℕ) → l.reason ≡ Preserved k → (row' : List ℕ) →
      ((s : ℕ) → has_bit row' s ≡ (has_bit row s || has_bit (get_or rows l.id.seq []) s)) →
      IsJoined rows (take (i + 1) links) old row'
  joined-more k reason row' more s = (to, from)
    where
      to : Has row' s → Has old s ⊎ IsLinked rows (take (i + 1) links) s
      to x = elim (or_cases (has_bit row s) (has_bit (get_or rows l.id.seq []) s) (sym (more s) ∙ x)) [
        | inl y ↦ elim ((so s).0 y) [ inl z ↦ inl z | inr z ↦ inr (grown s z) ]
        | inr y ↦ inr (record {
          l = l;
          rule = k;
          is_listed = subst (λ (ls : List Link). Contains ls l) (sym taken) (Contains-push (take i links) l);
          reason = reason;
          has = y;
        })
      ]

      keeps : Has row s → Has row' s
      keeps y = more s ∙ or_left (has_bit row s) (has_bit (get_or rows l.id.seq []) s) y

      here : (x : IsLinked rows (take (i + 1) links) s) → Contains (take i links) x.l ⊎ (l ≡ x.l) → Has row' s
      here x (inl c) = search rules
      here x (inr is) = more s ∙ or_right (has_bit row s) (has_bit (get_or rows l.id.seq []) s)
          (subst (λ (m : Link). RowHas rows m.id.seq s) (sym is) x.has)

      from : Has old s ⊎ IsLinked rows (take (i + 1) links) s → Has row' s
      from (inl y) = keeps ((so s).1 (inl y))
      from (inr x) = here x (parts x.l x.is_listed)

  -- a link by no rule
  pub joined-same : ((k : ℕ) → l.reason ≡ Preserved k → ⊥) → IsJoined rows (take (i + 1) links) old row
  joined-same none s = (to, from)
    where
      to : Has row s → Has old s ⊎ IsLinked rows (take (i + 1) links) s
      to x = elim ((so s).0 x) [ inl z ↦ inl z | inr z ↦ inr (grown s z) ]

      here : (x : IsLinked rows (take (i + 1) links) s) → Contains (take i links) x.l ⊎ (l ≡ x.l) → Has row s
      here x (inl c) = (so s).1 (inr (record { l = x.l; rule = x.rule; is_listed = c; reason = x.reason; has = x.has }))
      here x (inr is) = absurd (none x.rule (ap (λ (m : Link). m.reason) is ∙ x.reason))

      from : Has old s ⊎ IsLinked rows (take (i + 1) links) s → Has row s
      from (inl y) = (so s).1 (inl y)
      from (inr x) = here x (parts x.l x.is_listed)

-- ---- the row of a memory operation
-- links that are enough, over rows that mean the hart's events
pub record Linking (h : Hart) (e : Event) (rows : List (List ℕ)) (links : List Link) : Type 0 where
  pub fits : Fits h e
  pub memory : IsMemory e
  pub mean : RowsMean h rows
  pub count : length rows ≡ length h.events
  pub enough : AreEnoughLinks h e links

module _ {h : Hart} {e : Event} {rows : List (List ℕ)} {links : List Link} (g : Linking h e rows links) where
  abbrev log : List Event
  log = h.events

  abbrev new : List Event
  new = followed h e

  known : Known h
  known = g.fits.known

  ordered_by : (l : Link) (k : ℕ) → Contains links l → l.reason ≡ Preserved k → IsOrderedBy h e k l.id.seq
  ordered_by l k c is = ordered_of g.fits k l.id (g.enough.rules l k c is)

  -- a link by a rule names an event that has a row
  pub have_rows : HaveRows rows links
  have_rows l k c is =
      let o = ordered_by l k c is in
      let low = known.below o.a o.of_hart in
      let at = o.at in
      let count = g.count in
      omega arith

  -- what stands in a linked row stands before the new event
  linked_before : (s : ℕ) → IsLinked rows links s → IsBefore (hart_with h e) s e.id.seq
  linked_before s x =
      let m = (g.mean x.l.id.seq s).0 x.has in
      let o = ordered_by x.l x.rule x.is_listed x.reason in
      let last : o.a ≡ m.b = same_event known o.a m.b o.of_hart m.b_of_hart (o.at ∙ sym m.b_at) in
      let rule : Rule h.model new x.rule m.b e = subst (λ (y : Event). Rule h.model new x.rule y e) last o.rule in
      record {
        a = m.a;
        b = e;
        a_of_hart = old_new h e m.a m.a_of_hart;
        b_of_hart = Contains-push log e;
        a_at = m.a_at;
        b_at = refl;
        memory = g.memory;
        leads = inr (leads-rule h.model new m.a m.b e (leads-grows g.fits m.a m.b m.leads) (x.rule, rule));
      }

  -- what leads to an event in a linked row is in it
  linked_on : (a c : Event) → Contains log a → Contains log c → IsMemory c → Leads h.model log a c →
      IsLinked rows links c.id.seq → IsLinked rows links a.id.seq
  linked_on a c ca cc memory leads x = record {
    l = x.l;
    rule = x.rule;
    is_listed = x.is_listed;
    reason = x.reason;
    has = (rows_closed h rows known g.mean).closed x.l.id.seq c.id.seq a.id.seq x.has
        ((g.mean c.id.seq a.id.seq).1 (record {
          a = a;
          b = c;
          a_of_hart = ca;
          b_of_hart = cc;
          a_at = refl;
          b_at = refl;
          memory = memory;
          leads = leads;
        }));
  }

  -- what stands in the row so far stands before the new event
  pub row_sound : (row : List ℕ) → ((s : ℕ) → Has row s ↔ ((s ≡ e.id.seq) ⊎ IsLinked rows links s)) → (s : ℕ) →
      Has row s → IsBefore (hart_with h e) s e.id.seq
  row_sound row is s x = elim ((is s).0 x) [
    | inl same ↦ record {
      a = e;
      b = e;
      a_of_hart = Contains-push log e;
      b_of_hart = Contains-push log e;
      a_at = sym same;
      b_at = refl;
      memory = g.memory;
      leads = inl refl;
    }
    | inr y ↦ linked_before s y
  ]

  module _ (row : List ℕ) (is : (s : ℕ) → Has row s ↔ ((s ≡ e.id.seq) ⊎ IsLinked rows links s))
      (own : All (HasOwn row h.number) links) where
    -- an old event that a link names
    linked_named : (c : Event) → Contains log c → Names links c.id → IsLinked rows links c.id.seq
    linked_named c cc (l, listed, same) = go ((is l.id.seq).0 has)
      where
        at : l.id.seq ≡ c.id.seq
        at = ap (λ (i : Id). i.seq) same

        has : Has row l.id.seq
        has = (All-contains (HasOwn row h.number) links l own listed (ap (λ (i : Id). i.hart) same ∙ known.own c cc)).1

        go : (l.id.seq ≡ e.id.seq) ⊎ IsLinked rows links l.id.seq → IsLinked rows links c.id.seq
        go (inl x) = let low = known.below c cc in let last = g.fits.seq in absurd (omega (arith, at))
        go (inr x) = subst (IsLinked rows links) at x

    -- what a rule orders before the new event is in a linked row; the number is how many events are
    -- later at most
    linked_by : (n k : ℕ) (c : Event) → length log ≤ n + c.id.seq → Rule h.model new k c e →
        IsLinked rows links c.id.seq
    linked_by zero k c later r = grind (arith, common_steps)
    linked_by (suc n) k c later r = go (λ j m low q. linked_by n j m low q) (g.enough.carried k c cc r)
      where
        cc : Contains log c
        cc = rule-old g.fits k c r

        go :
            ((j : ℕ) (m : Event) → length log ≤ n + m.id.seq → Rule h.model new j m e → IsLinked rows links m.id.seq) →
            Names links c.id ⊎ IsSplit h.model log new (Preserved k) c e → IsLinked rows links c.id.seq
        go again (inl named) = linked_named c cc named
        go again (inr s) =
            let earlier = reaches-earlier h.model log c s.c s.splits.0 in
            let low = earlier.seq in
            linked_on c s.c cc s.of_log s.splits.1.1.from_memory (inr s.splits.0)
            (again s.splits.1.0 s.c (omega arith) s.splits.1.1)

    linked_from : (a : Event) → LastStep h.model new a e → IsLinked rows links a.id.seq
    linked_from a l =
        let cc : Contains log l.c = rule-old g.fits l.last.0 l.c l.last.1 in
        let old = leads-settled g.fits a l.c cc l.leads in
        linked_on a l.c old.1 cc l.last.1.from_memory old.0 (linked_by (length log) l.last.0 l.c (omega arith) l.last.1)

    -- the joined row is the event's
    pub row-linked : (s : ℕ) → Has row s ↔ IsBefore (hart_with h e) s e.id.seq
    row-linked s = (row_sound row is s, from)
      where
        from : IsBefore (hart_with h e) s e.id.seq → Has row s
        from b = (is s).1 (go b.leads)
          where
            end : b.b ≡ e
            end = end_is g.fits b.b b.b_of_hart b.b_at

            go : Leads h.model new b.a b.b → (s ≡ e.id.seq) ⊎ IsLinked rows links s
            go (inl same) = inl (sym b.a_at ∙ ap (λ (y : Event). y.id.seq) (same ∙ end))
            go (inr p) = inr (subst (IsLinked rows links) b.a_at
                (linked_from b.a (last_step h.model new b.a e
                (subst (λ (y : Event). Reaches h.model new b.a y) end p))))

-- an empty row into which the event was put, and then the rows that the links say
pub row-begun : (rows : List (List ℕ)) (links : List Link) (n : ℕ) (empty one row : List ℕ) →
    ((s : ℕ) → has_bit empty s ≡ false) →
    ((s : ℕ) → has_bit one s ≡ (has_bit empty s || (n == s))) → IsJoined rows links one row →
    (s : ℕ) → Has row s ↔ ((s ≡ n) ⊎ IsLinked rows links s)
row-begun rows links n empty one row none with_n joined s = grind (arith, common_steps)
