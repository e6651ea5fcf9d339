-- Rows say which events rules lead from, also after one more event.
use Rattle.rv_hart.proofs.Common.{◌≡◌, ℕ, ◌<◌, ◌≤◌, List, [], ◌∷◌, ◌++◌, length, get_or, Contains, ◌⊎◌, ◌↔◌, inl}
use Rattle.rv_hart.proofs.Common.{inr, sym, refl, ap, ◌∙◌, arith, subst, bit_at-zero, false≢true, cases_lt}
use Rattle.rv_hart.proofs.Common.{cases_order, get_or_at, get_or_append_left, get_or_past, length_push}
use Rattle.rv_hart.proofs.Common.{Contains-push_cases, Contains-push, common_steps, rules, Rule-grows}
use Rattle.rv_hart.proofs.Common.{HasReason-settled, grows-push, IsMemory, Earlier, Rule, Event, MemoryModel}
use Rattle.rv_hart.proofs.Common.{Preserved, AnyRule, Reaches, IsSplit, path-append, path-map, reaches-earlier}
use Rattle.rv_hart.proofs.Common.{Has, RowHas, IsClosed, IsReached, IsThinned, Hart, followed, hart_with}
use Rattle.rv_hart.proofs.Common.{IsBefore, RowsMean, IsCandidate, IsEnough}
use Rattle.rv_cover.specs.Paths.{one, more}
use Rattle.rv_hart.proofs.HartFacts.{Known, Fits, known_with, same_event, earlier_old, old_new}

-- the last rule of a path
pub record LastStep (model : MemoryModel) (log : List Event) (a b : Event) : Type 0 where
  pub c : Event
  pub leads : (a ≡ c) ⊎ Reaches model log a c
  pub last : AnyRule model log c b

module _ (model : MemoryModel) (log : List Event) where
  -- the same event, or rules lead from the one to the other
  abbrev pub Leads : Event → Event → Type 0
  Leads a b = (a ≡ b) ⊎ Reaches model log a b

  step_on : (a m b : Event) → AnyRule model log a m → LastStep model log m b → LastStep model log a b
  step_on a m b s l = record { c = l.c; leads = joined l.leads; last = l.last }
    where
      joined : (m ≡ l.c) ⊎ Reaches model log m l.c → (a ≡ l.c) ⊎ Reaches model log a l.c
      joined (inl is) = inr (subst (λ (x : Event). Reaches model log a x) is (one s))
      joined (inr q) = inr (more s q)

  -- rules that lead end in a rule
  pub last_step : (a b : Event) → Reaches model log a b → LastStep model log a b
  last_step a b (one s) = record { c = a; leads = inl refl; last = s }
  last_step a b (more {j = m} s p) = step_on a m b s (last_step m b p)

  reaches-from : (a b : Event) → Reaches model log a b → Contains log a
  reaches-from a b (one s) = s.1.from
  reaches-from a b (more {j = m} s p) = s.1.from

  -- what leads to what leads leads
  pub leads-append : (a b c : Event) → Leads a b → Leads b c → Leads a c
  leads-append a b c (inl p) q = subst (λ (x : Event). Leads x c) (sym p) q
  leads-append a b c (inr p) (inl q) = inr (subst (λ (x : Event). Reaches model log a x) q p)
  leads-append a b c (inr p) (inr q) = inr (path-append Event (AnyRule model log) a b c p q)

  leads-on : (a b c : Event) → Reaches model log a b → Leads b c → Reaches model log a c
  leads-on a b c p (inl q) = subst (λ (x : Event). Reaches model log a x) q p
  leads-on a b c p (inr q) = path-append Event (AnyRule model log) a b c p q

  leads-hart : (a b : Event) → Leads a b → b.id.hart ≡ a.id.hart
  leads-hart a b (inl p) = ap (λ (x : Event). x.id.hart) (sym p)
  leads-hart a b (inr p) = sym (reaches-earlier model log a b p).hart

  -- what leads to an event and a rule from it lead on
  pub leads-rule : (a b c : Event) → Leads a b → AnyRule model log b c → Reaches model log a c
  leads-rule a b c (inl p) q = subst (λ (x : Event). Reaches model log x c) (sym p) (one q)
  leads-rule a b c (inr p) q = path-append Event (AnyRule model log) a b c p (one q)

-- rows that mean this are closed
pub rows_closed : (h : Hart) (rows : List (List ℕ)) → Known h → RowsMean h rows → IsClosed rows
rows_closed h rows known mean = record { below = below; closed = closed }
  where
    below : (b j : ℕ) → RowHas rows b j → j ≤ b
    below b j r = search (reaches-earlier, rules)

    closed : (b c j : ℕ) → RowHas rows b c → RowHas rows c j → RowHas rows b j
    closed b c j r q =
        let m = (mean b c).0 r in
        let n = (mean c j).0 q in
        let same : n.b ≡ m.a = same_event known n.b m.a n.b_of_hart m.a_of_hart (n.b_at ∙ sym m.a_at) in
        (mean b j).1 (record {
          a = n.a;
          b = m.b;
          a_of_hart = n.a_of_hart;
          b_of_hart = m.b_of_hart;
          a_at = n.a_at;
          b_at = m.b_at;
          memory = m.memory;
          leads = leads-append h.model h.events n.a n.b m.b n.leads
              (subst (λ (x : Event). Leads h.model h.events x m.b) (sym same) m.leads);
        })

-- a memory operation of the hart stands in its own row
pub row_own : (h : Hart) (rows : List (List ℕ)) (a : Event) → RowsMean h rows → Contains h.events a → IsMemory a →
    RowHas rows a.id.seq a.id.seq
row_own h rows a mean ca memory = grind (arith, common_steps)

-- no row has nothing
pub none_has : (s : ℕ) → Has [] s → ⊥
none_has s x = grind (arith, common_steps, false≢true, bit_at-zero)

module _ {h : Hart} {e : Event} (f : Fits h e) where
  abbrev log : List Event
  log = h.events

  abbrev new : List Event
  new = followed h e

  known' : Known (hart_with h e)
  known' = known_with f

  reaches-grows : (a b : Event) → Reaches h.model log a b → Reaches h.model new a b
  reaches-grows a b p = path-map Event (AnyRule h.model log) (AnyRule h.model new)
      (λ a b s. (s.0, Rule-grows h.model log new (grows-push log e) f.known.indexed known'.indexed s.0 a b s.1)) a b p

  -- an earlier event of an old one is old
  before_old : (a b : Event) → Contains log b → Contains new a → Earlier a b → Contains log a
  before_old a b cb ca earlier = elim (Contains-push_cases log e a ca) [
    | inl old ↦ old
    | inr is ↦ (let low = f.known.below b cb in let at = f.seq in
        let same : e.id.seq ≡ a.id.seq = ap (λ (x : Event). x.id.seq) is in let seq = earlier.seq in
        absurd (omega arith))
  ]

  -- a rule between old events was one before
  pub rule-settled : (k : ℕ) (a b : Event) → Contains log b → Rule h.model new k a b → Rule h.model log k a b
  rule-settled k a b cb r =
      HasReason-settled h.model log new (grows-push log e) f.known.indexed known'.indexed a b
      (before_old a b cb r.from r.earlier) cb (Preserved k) r

  reaches-settled : (a b : Event) → Contains log b → Reaches h.model new a b → Reaches h.model log a b
  reaches-settled a b cb (one s) = one (s.0, rule-settled s.0 a b cb s.1)
  reaches-settled a b cb (more {j = m} s p) =
      let rest : Reaches h.model log m b = reaches-settled m b cb p in
      more (s.0, rule-settled s.0 a m (reaches-from h.model log m b rest) s.1) rest

  -- what a rule orders before the new event is old
  pub rule-old : (k : ℕ) (a : Event) → Rule h.model new k a e → Contains log a
  rule-old k a r = earlier_old f a r.from r.earlier

  -- what leads still leads
  pub leads-grows : (a b : Event) → Leads h.model log a b → Leads h.model new a b
  leads-grows a b (inl p) = inl p
  leads-grows a b (inr p) = inr (reaches-grows a b p)

  -- what leads to an old event led before
  pub leads-settled : (a b : Event) → Contains log b → Leads h.model new a b → Leads h.model log a b × Contains log a
  leads-settled a b cb (inl p) = (inl p, subst (Contains log) (sym p) cb)
  leads-settled a b cb (inr p) = let q = reaches-settled a b cb p in (inr q, reaches-from h.model log a b q)

  -- what stood before still does
  pub before-grows : (s j : ℕ) → IsBefore h s j → IsBefore (hart_with h e) s j
  before-grows s j m = search (old_new, leads-grows)

  -- what stands before an old event stands there without the new one
  pub before-settled : (s j : ℕ) → j < e.id.seq → IsBefore (hart_with h e) s j → IsBefore h s j
  before-settled s j low x =
      let cb : Contains log x.b = old x.b x.b_of_hart x.b_at in
      let back = leads-settled x.a x.b cb x.leads in
      record {
        a = x.a;
        b = x.b;
        a_of_hart = back.1;
        b_of_hart = cb;
        a_at = x.a_at;
        b_at = x.b_at;
        memory = x.memory;
        leads = back.0;
      }
    where
      old : (b : Event) → Contains new b → b.id.seq ≡ j → Contains log b
      old b c at = grind (arith, common_steps)

  -- the rows with that of the new event
  pub rows-push : (rows : List (List ℕ)) (r : List ℕ) → length rows ≡ length log → RowsMean h rows →
      ((s : ℕ) → Has r s ↔ IsBefore (hart_with h e) s e.id.seq) → RowsMean (hart_with h e) (rows ++ r ∷ [])
  rows-push rows r count mean last j s = go (cases_order j e.id.seq)
    where
      go : (j ≡ e.id.seq) ⊎ ((j < e.id.seq) ⊎ (e.id.seq < j)) → RowHas (rows ++ r ∷ []) j s ↔
          IsBefore (hart_with h e) s j
      go (inl same) =
          let at = f.seq in
          let end : get_or (rows ++ r ∷ []) j [] ≡ r = get_or_at rows r [] [] j (omega arith) in
          subst (λ (row : List ℕ). Has row s ↔ IsBefore (hart_with h e) s j) (sym end)
          (subst (λ (n : ℕ). Has r s ↔ IsBefore (hart_with h e) s n) (sym same) (last s))
      go (inr (inl low)) =
          let at = f.seq in
          let old : get_or (rows ++ r ∷ []) j [] ≡ get_or rows j [] =
          get_or_append_left rows (r ∷ []) [] j (omega arith) in
          subst (λ (row : List ℕ). Has row s ↔ IsBefore (hart_with h e) s j) (sym old)
          (λ x. before-grows s j ((mean j s).0 x), λ x. (mean j s).1 (before-settled s j low x))
      go (inr (inr high)) =
          let at = f.seq in
          let none : get_or (rows ++ r ∷ []) j [] ≡ [] =
          get_or_past (rows ++ r ∷ []) j [] (omega (arith, length_push rows r)) in
          subst (λ (row : List ℕ). Has row s ↔ IsBefore (hart_with h e) s j) (sym none) (
            λ x. absurd (none_has s x),
            λ x. (let low = known'.below x.b x.b_of_hart in let b = x.b_at in
                absurd (omega (arith, length_push log e))),
          )

  -- and without it
  pub rows-front : (rows : List (List ℕ)) (r : List ℕ) → length rows ≡ length log →
      RowsMean (hart_with h e) (rows ++ r ∷ []) → RowsMean h rows
  rows-front rows r count mean j s = go (cases_lt j e.id.seq)
    where
      go : (j < e.id.seq) ⊎ (e.id.seq ≤ j) → RowHas rows j s ↔ IsBefore h s j
      go (inl low) =
          let at = f.seq in
          let old : get_or (rows ++ r ∷ []) j [] ≡ get_or rows j [] =
          get_or_append_left rows (r ∷ []) [] j (omega arith) in
          let m : Has (get_or rows j []) s ↔ IsBefore (hart_with h e) s j =
          subst (λ (row : List ℕ). Has row s ↔ IsBefore (hart_with h e) s j) old (mean j s) in
          (λ x. before-settled s j low (m.0 x), λ x. m.1 (before-grows s j x))
      go (inr high) =
          let at = f.seq in
          let none : get_or rows j [] ≡ [] = get_or_past rows j [] (omega arith) in
          subst (λ (row : List ℕ). Has row s ↔ IsBefore h s j) (sym none) (
            λ x. absurd (none_has s x),
            λ x. (let low = f.known.below x.b x.b_of_hart in let b = x.b_at in
                absurd (omega arith)),
          )

  -- the new event is the only one of its number
  pub end_is : (b : Event) → Contains new b → b.id.seq ≡ e.id.seq → b ≡ e
  end_is b cb at = same_event known' b e cb (Contains-push log e) at

  module _ (rows : List (List ℕ)) (candidates listed : List ℕ) (memory : IsMemory e) (mean : RowsMean h rows)
      (enough : IsEnough h e candidates) (thinned : IsThinned rows candidates listed) where
    -- each listed event is a candidate
    pub only : (s : ℕ) → Contains listed s → IsCandidate h e s
    only s l = enough.sound s (thinned.only s l)

    -- a listed event to which a rule's first event leads
    goes : (k : ℕ) (a : Event) → Rule h.model new k a e → (b : Event) × Contains log b × Leads h.model log a b ×
        Contains listed b.id.seq
    goes k a r =
        let g = enough.enough k a r in
        let t = thinned.each g.c.id.seq g.has in
        let m = (mean t.b g.c.id.seq).0 t.has in
        let first : g.c ≡ m.a = same_event f.known g.c m.a g.of_hart m.a_of_hart (sym m.a_at) in (
          m.b,
          m.b_of_hart,
          leads-append h.model log a g.c m.b g.leads
              (subst (λ (x : Event). Leads h.model log x m.b) (sym first) m.leads),
          subst (Contains listed) (sym m.b_at) t.is_taken,
        )

    into : (b : Event) → Contains log b → Contains listed b.id.seq → AnyRule h.model new b e
    into b cb l =
        let cand = only b.id.seq l in (
          cand.0,
          subst (λ (x : Event). Rule h.model new cand.0 x e)
              (same_event f.known cand.1.a b cand.1.of_hart cb cand.1.at) cand.1.rule,
        )

    -- each candidate is listed or split
    pub carried : (k : ℕ) (a : Event) → Contains log a → Rule h.model new k a e → Contains listed a.id.seq ⊎
        IsSplit h.model log new (Preserved k) a e
    carried k a ca r =
        let g = goes k a r in
        elim g.2 [
          | inl same ↦ inl (subst (λ (x : Event). Contains listed x.id.seq) (sym same) g.3)
          | inr p ↦ inr (record { c = g.0; of_log = g.1; splits = (p, into g.0 g.1 g.3) })
        ]

    -- none that is listed is split
    pub unsplit : (a c : Event) → Contains log c → Contains listed a.id.seq → AnyRule h.model new a c →
        AnyRule h.model new c e → ⊥
    unsplit a c cc l r q =
        let old : Rule h.model log r.0 a c = rule-settled r.0 a c cc r.1 in
        let g = enough.enough q.0 c q.1 in
        let p : Reaches h.model log a g.c = leads-on h.model log a c g.c (one (r.0, old)) g.leads in
        let earlier : Earlier a g.c = reaches-earlier h.model log a g.c p in
        let low = earlier.seq in
        let cand = enough.sound g.c.id.seq g.has in
        let is : cand.1.a ≡ g.c = same_event f.known cand.1.a g.c cand.1.of_hart g.of_hart cand.1.at in
        let memory : IsMemory g.c = subst IsMemory is cand.1.rule.from_memory in
        thinned.unsplit a.id.seq g.c.id.seq l g.has (λ same. omega arith)
        ((mean g.c.id.seq a.id.seq).1 (record {
          a = a;
          b = g.c;
          a_of_hart = old.from;
          b_of_hart = g.of_hart;
          a_at = refl;
          b_at = refl;
          memory = memory;
          leads = inr p;
        }))

    row-leads : (s : ℕ) → IsReached rows listed s → IsBefore (hart_with h e) s e.id.seq
    row-leads s l =
        let m = (mean l.b s).0 l.has in
        let cand = only l.b l.is_taken in
        let last : cand.1.a ≡ m.b = same_event f.known cand.1.a m.b cand.1.of_hart m.b_of_hart
        (cand.1.at ∙ sym m.b_at) in
        let rule : Rule h.model new cand.0 m.b e =
        subst (λ (x : Event). Rule h.model new cand.0 x e) last cand.1.rule in
        record {
          a = m.a;
          b = e;
          a_of_hart = old_new h e m.a m.a_of_hart;
          b_of_hart = Contains-push log e;
          a_at = m.a_at;
          b_at = refl;
          memory = memory;
          leads =
              inr (leads-rule h.model new m.a m.b e (leads-grows m.a m.b m.leads) (cand.0, rule));
        }

    row-from : (s : ℕ) (a : Event) → a.id.seq ≡ s → LastStep h.model new a e → IsReached rows listed s
    row-from s a at l =
        let c : Event = l.c in
        let cc : Contains log c = rule-old l.last.0 c l.last.1 in
        let g = goes l.last.0 c l.last.1 in
        let old = leads-settled a c cc l.leads in
        let leads : Leads h.model log a g.0 = leads-append h.model log a c g.0 old.0 g.2 in
        record {
          b = g.0.id.seq;
          is_taken = g.3;
          has = (mean g.0.id.seq s).1 (record {
            a = a;
            b = g.0;
            a_of_hart = old.1;
            b_of_hart = g.1;
            a_at = at;
            b_at = refl;
            memory = (into g.0 g.1 g.3).1.from_memory;
            leads = leads;
          });
        }

    -- what the sweep reached, with the event itself, is the row of the new event
    pub row_is : (s : ℕ) → (IsReached rows listed s ⊎ (s ≡ e.id.seq)) ↔ IsBefore (hart_with h e) s e.id.seq
    row_is s = (to, from)
      where
        to : IsReached rows listed s ⊎ (s ≡ e.id.seq) → IsBefore (hart_with h e) s e.id.seq
        to (inl r) = row-leads s r
        to (inr is) = search (Contains-push, rules)

        from : IsBefore (hart_with h e) s e.id.seq → IsReached rows listed s ⊎ (s ≡ e.id.seq)
        from x = go x.leads
          where
            end : x.b ≡ e
            end = end_is x.b x.b_of_hart x.b_at

            go : Leads h.model new x.a x.b → IsReached rows listed s ⊎ (s ≡ e.id.seq)
            go (inl same) = inr (sym x.a_at ∙ ap (λ (y : Event). y.id.seq) (same ∙ end))
            go (inr p) = inl (row-from s x.a x.a_at
                (last_step h.model new x.a e (subst (λ (y : Event). Reaches h.model new x.a y) end p)))
