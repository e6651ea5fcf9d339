-- The lowest rules of candidates, and the links of the listed ones.
use Rattle.rv_hart.proofs.Common.{◌≡◌, ℕ, ◌<◌, ◌≤◌, false, ◌||◌, ◌==◌, ◌↔◌, List, [], ◌∷◌, ◌++◌, length}
use Rattle.rv_hart.proofs.Common.{get_or, Contains, ◌⊎◌, Some, None, inl, inr, sym, refl, ap, ◌∙◌, arith, subst}
use Rattle.rv_hart.proofs.Common.{eqb-true, eq-eqb, or_cases, or_left, or_right, false≢true}
use Rattle.rv_hart.proofs.Common.{Contains-push_cases, Contains-push, Contains-append_left, same_Some}
use Rattle.rv_hart.proofs.Common.{common_steps, named-is, Condition-number, IsMemory, Rule, IsPreserved}
use Rattle.rv_hart.proofs.Common.{IsLowest, Id, Event, Link, Reason, Preserved, Names, Has, has_bit, RowHas}
use Rattle.rv_hart.proofs.Common.{IsTaken, IsReached, IsThinned, Swept, swept-init, swept-step, swept-done}
use Rattle.rv_hart.proofs.Common.{Gathers, gathers-none, gathers-step, Hart, followed, hart_with, IsOrderedBy}
use Rattle.rv_hart.proofs.Common.{IsCandidate, IsBefore, IsEnough, RowsMean, AreRuleLinks, IsOperationOf}
use Rattle.rv_hart.proofs.Common.{ConditionOf, IsLowestBelow, IsApart, IsClosed, IsGenerated}
use Rattle.rv_hart.proofs.Common.{IsLeadingRow, IsLowestRule, cases_eq}
use Rattle.rv_event.specs.Log.{named}
use Rattle.rv_hart.proofs.HartFacts.{Known, Fits, known_with, same_event, old_new}
use Rattle.rv_hart.proofs.RowMeanings.{carried, unsplit, row_is, rule-old, rows_closed}
use Rattle.rv_hart.proofs.RuleConditions.{ordered}
use Rattle.rv_hart.proofs.Candidates.{candidates-own}

-- ---- the lowest rule of a candidate
module _ {h : Hart} {e : Event} (f : Fits h e) (memory : IsMemory e) (s : ℕ) (candidate : IsCandidate h e s) where
  abbrev a : Event
  a = candidate.1.a

  -- a candidate is a memory operation
  pub candidate-operation : IsOperationOf h a
  candidate-operation = record { of_hart = candidate.1.of_hart; memory = candidate.1.rule.from_memory }

  -- the lowest rule whose condition holds of the candidate is its lowest rule
  pub lowest-condition : (k : ℕ) → IsLowestBelow h e a 14 (Some k) → IsLowestRule h e s k
  lowest-condition k low = record {
    ordered = subst (IsOrderedBy h e k) candidate.1.at
        (ordered f memory k a candidate.1.of_hart (candidate.1.rule.from_memory, low.1));
    lowest = λ j under o. low.2 j under (subst (ConditionOf h e j)
        (same_event f.known o.a a o.of_hart candidate.1.of_hart (o.at ∙ sym candidate.1.at)) o.rule.condition);
  }

  -- some rule's condition holds of a candidate
  pub some-condition : IsLowestBelow h e a 14 None → ⊥
  some-condition none =
      let low = Condition-number h.model (followed h e) a e candidate.0 candidate.1.rule.condition in
      none candidate.0 (omega arith) candidate.1.rule.condition

-- the row of rule 2 decides the rule for an operation that stands in the row of no other load of it
pub reads-decide : {h : Hart} {e : Event} → Fits h e → IsMemory e → (rows : List (List ℕ)) → RowsMean h rows →
    (reads : List ℕ) → IsLeadingRow h e 2 reads → (a : Event) → IsOperationOf h a → IsApart rows reads a.id.seq →
    Has reads a.id.seq ↔ ConditionOf h e 2 a
reads-decide {h} {e} f memory rows mean reads leading a is apart = (to, from)
  where
    to : Has reads a.id.seq → ConditionOf h e 2 a
    to x = let o = leading.sound a.id.seq x in
        subst (ConditionOf h e 2) (same_event f.known o.a a o.of_hart is.of_hart o.at) o.rule.condition

    from : ConditionOf h e 2 a → Has reads a.id.seq
    from holds =
        let o = ordered f memory 2 a is.of_hart (is.memory, holds) in
        let this : o.a ≡ a = same_event f.known o.a a o.of_hart is.of_hart o.at in
        let g = leading.enough a (subst (λ (x : Event). Rule h.model (followed h e) 2 x e) this o.rule) in
        let p = leading.sound g.c.id.seq g.has in
        let same : p.a ≡ g.c = same_event f.known p.a g.c p.of_hart g.of_hart p.at in
        let row : RowHas rows g.c.id.seq a.id.seq = (mean g.c.id.seq a.id.seq).1 (record {
          a = a;
          b = g.c;
          a_of_hart = is.of_hart;
          b_of_hart = g.of_hart;
          a_at = refl;
          b_at = refl;
          memory = subst IsMemory same p.rule.from_memory;
          leads = g.leads;
        }) in
        subst (Has reads) (apart g.c.id.seq g.has row) g.has

-- ---- one link
-- the link is the lowest rule of an event that a sweep took
pub record IsLinkOf (h : Hart) (e : Event) (taken : List ℕ) (l : Link) : Type 0 where
  pub rule : ℕ
  pub reason : l.reason ≡ Preserved rule
  pub hart : l.id.hart ≡ h.number
  pub is_taken : Contains taken l.id.seq
  pub lowest : IsLowestRule h e l.id.seq rule

-- each link is that of an event that a sweep took, and each of these has one
pub record AreLinksOf (h : Hart) (e : Event) (taken : List ℕ) (links : List Link) : Type 0 where
  pub each : (l : Link) → Contains links l → IsLinkOf h e taken l
  pub all : (n : ℕ) → Contains taken n → Names links (record { hart = h.number; seq = n })

links-none : (h : Hart) (e : Event) (links : List Link) → links ≡ [] → AreLinksOf h e [] links
links-none h e links nil = grind (arith, common_steps)

links-more : (h : Hart) (e : Event) (taken : List ℕ) (n k : ℕ) (links links' : List Link) → AreLinksOf h e taken links →
    IsLowestRule h e n k →
    links' ≡ links ++ record { id = record { hart = h.number; seq = n }; reason = Preserved k } ∷ [] →
    AreLinksOf h e (taken ++ n ∷ []) links'
links-more h e taken n k links links' so lowest more = record { each = each; all = all }
  where
    mine : IsLinkOf h e (taken ++ n ∷ []) (record { id = record { hart = h.number; seq = n }; reason = Preserved k })
    mine = record { rule = k; reason = refl; hart = refl; is_taken = Contains-push taken n; lowest = lowest }

    old : (l : Link) → IsLinkOf h e taken l → IsLinkOf h e (taken ++ n ∷ []) l
    old l x = grind (arith, common_steps)

    each : (l : Link) → Contains links' l → IsLinkOf h e (taken ++ n ∷ []) l
    each l c = elim (Contains-push_cases links
        (record { id = record { hart = h.number; seq = n }; reason = Preserved k }) l
        (subst (λ (ls : List Link). Contains ls l) more c)) [
          | inl before ↦ old l (so.each l before)
          | inr same ↦ subst (IsLinkOf h e (taken ++ n ∷ [])) same mine
        ]

    grown : (l : Link) → Contains links l → Contains links' l
    grown l c = subst (λ (ls : List Link). Contains ls l) (sym more) (Contains-append_left links _ l c)

    all : (m : ℕ) → Contains (taken ++ n ∷ []) m → Names links' (record { hart = h.number; seq = m })
    all m c = elim (Contains-push_cases taken n m c) [
      | inl before ↦ (let x = so.all m before in (x.0, grown x.0 x.1, x.2))
      | inr same ↦ (
        record { id = record { hart = h.number; seq = n }; reason = Preserved k },
        subst (λ (ls : List Link). Contains ls
            (record { id = record { hart = h.number; seq = n }; reason = Preserved k })) (sym more)
            (Contains-push links _),
        ap (λ (x : ℕ). record { hart = h.number; seq = x }) same,
      )
    ]

-- ---- a rule between numbers and between names
module _ {h : Hart} {e : Event} (f : Fits h e) where
  abbrev new : List Event
  new = followed h e

  known' : Known (hart_with h e)
  known' = known_with f

  -- a rule between the events orders their ids
  pub preserved_of : (k : ℕ) (i : Id) → i.hart ≡ h.number → IsOrderedBy h e k i.seq → IsPreserved h.model new k i e.id
  preserved_of k i hart o =
      let hart' : o.a.id.hart ≡ h.number = f.known.own o.a o.of_hart in
      let at : o.a.id.seq ≡ i.seq = o.at in
      let same : i ≡ o.a.id = grind arith in
      record {
        a = o.a;
        b = e;
        first = ap (named new) same ∙ known'.indexed.own o.a (old_new h e o.a o.of_hart);
        second = known'.indexed.own e (Contains-push h.events e);
        rule = o.rule;
      }

  -- and the other way round
  pub ordered_of : (k : ℕ) (i : Id) → IsPreserved h.model new k i e.id → IsOrderedBy h e k i.seq
  ordered_of k i p =
      let first = named-is new i p.a p.first in
      let last : p.b ≡ e = same_Some p.b e (sym p.second ∙ known'.indexed.own e (Contains-push h.events e)) in
      let rule : Rule h.model new k p.a e = subst (λ (x : Event). Rule h.model new k p.a x) last p.rule in
      record { a = p.a; of_hart = rule-old f k p.a rule; at = ap (λ (x : Id). x.seq) (sym first.1); rule = rule }

-- ---- all links
module _ {h : Hart} {e : Event} (f : Fits h e) (memory : IsMemory e) (rows : List (List ℕ)) (mean : RowsMean h rows)
    (candidates taken : List ℕ) (enough : IsEnough h e candidates) (thinned : IsThinned rows candidates taken) where
  links-are : (links : List Link) → AreLinksOf h e taken links → AreRuleLinks h e links
  links-are links so = record {
    rules = λ l c. (let x = so.each l c in
        record {
          rule = x.rule;
          reason = x.reason;
          preserved = preserved_of f x.rule l.id x.hart x.lowest.ordered;
        });
    lowest = λ l c. (let x = so.each l c in subst (λ (r : Reason). IsLowest h.model (followed h e) l.id r e.id)
        (sym x.reason) (λ j low p. x.lowest.lowest j low (ordered_of f j l.id p)));
    carried = λ k a ca r. elim (carried f rows candidates taken memory mean enough thinned k a ca r) [
      | inl c ↦ inl (let x = so.all a.id.seq c in (
        x.0,
        x.1,
        x.2 ∙ (let hart : h.number ≡ a.id.hart = sym (f.known.own a ca) in
            ap (λ (n : ℕ). record { hart = n; seq = a.id.seq }) hart),
      ))
      | inr s ↦ inr s
    ];
    unsplit = λ k a c ca cc l r q. unsplit f rows candidates taken memory mean enough thinned a c cc
        (so.each (record { id = a.id; reason = Preserved k }) l).is_taken r q;
  }

  -- a row with the new event into which the rows of what was taken are joined
  row-swept : (old one row : List ℕ) → ((s : ℕ) → has_bit one s ≡ (has_bit old s || (e.id.seq == s))) →
      Gathers rows one taken row →
      (s : ℕ) → Has row s ↔ (Has old s ⊎ IsBefore (hart_with h e) s e.id.seq)
  row-swept old one row more gathers s = (to, from)
    where
      is : (IsReached rows taken s ⊎ (s ≡ e.id.seq)) ↔ IsBefore (hart_with h e) s e.id.seq
      is = row_is f rows candidates taken memory mean enough thinned s

      begun : Has one s → Has old s ⊎ IsBefore (hart_with h e) s e.id.seq
      begun x = elim (or_cases (has_bit old s) (e.id.seq == s) (sym (more s) ∙ x)) [
        | inl y ↦ inl y
        | inr y ↦ inr (is.0 (inr (sym (eqb-true e.id.seq s y))))
      ]

      to : Has row s → Has old s ⊎ IsBefore (hart_with h e) s e.id.seq
      to x = elim ((gathers s).0 x) [ inl y ↦ begun y | inr y ↦ inr (is.0 (inl y)) ]

      before : IsReached rows taken s ⊎ (s ≡ e.id.seq) → Has row s
      before (inl y) = (gathers s).1 (inr y)
      before (inr y) = (gathers s).1 (inl
          (more s ∙ or_right (has_bit old s) (e.id.seq == s) (eq-eqb e.id.seq s (sym y))))

      from : Has old s ⊎ IsBefore (hart_with h e) s e.id.seq → Has row s
      from (inl y) = (gathers s).1 (inl (more s ∙ or_left (has_bit old s) (e.id.seq == s) y))
      from (inr b) = before (is.1 b)

-- ---- the sweep
-- a sweep over enough candidates
pub record Sweeping (h : Hart) (e : Event) (rows : List (List ℕ)) (first : List ℕ) : Type 0 where
  pub fits : Fits h e
  pub memory : IsMemory e
  pub mean : RowsMean h rows
  pub count : length rows ≡ length h.events
  pub enough : IsEnough h e first

-- what the sweep has taken so far has these links
pub record IsListing (h : Hart) (e : Event) (rows : List (List ℕ)) (first left : List ℕ) (top : ℕ)
    (links : List Link) : Type 0 where
  pub taken : List ℕ
  pub swept : Swept rows first left taken top
  pub within : top ≤ length rows
  pub listed : AreLinksOf h e taken links

-- the rows of what the sweep has taken so far are joined to a row
pub record IsGathering (rows : List (List ℕ)) (first left : List ℕ) (top : ℕ) (base row : List ℕ) : Type 0 where
  pub taken : List ℕ
  pub swept : Swept rows first left taken top
  pub within : top ≤ length rows
  pub gathers : Gathers rows base taken row

module _ {h : Hart} {e : Event} {rows : List (List ℕ)} {first : List ℕ} (g : Sweeping h e rows first) where
  own : (b : ℕ) → Has first b → (b < length rows) × RowHas rows b b
  own = candidates-own g.fits rows first g.mean g.count g.enough

  -- there are at most 4,096 rows
  pub rows-few : length rows ≤ 4096
  rows-few = let few = g.fits.known.few in let count = g.count in omega arith

  begun : Swept rows first first [] (length rows)
  begun = swept-init rows first (length rows) (λ b x. (own b x).0)

  next : (left left' taken : List ℕ) (top b : ℕ) → Swept rows first left taken top → IsTaken rows left (Some b) left' →
      Swept rows first left' (taken ++ b ∷ []) b
  next left left' taken top b swept is = swept-step rows first left left' taken top b
      (rows_closed h rows g.fits.known g.mean) (λ j x. (own j x).1) swept is.0 is.1

  -- before the first candidate is taken
  pub listing-begun : (links : List Link) → links ≡ [] → IsListing h e rows first first (length rows) links
  listing-begun links nil = grind (arith, common_steps, begun, links-none)

  -- what is taken is a candidate
  pub listing-candidate : (left left' : List ℕ) (top b : ℕ) (links : List Link) →
      IsListing h e rows first left top links → IsTaken rows left (Some b) left' → IsCandidate h e b
  listing-candidate left left' top b links so is = g.enough.sound b (so.swept.sub b is.0.1)

  -- what is taken stands in the row of no other load of rule 2
  pub listing-apart : (left left' : List ℕ) (top b : ℕ) (links : List Link) (reads : List ℕ) →
      IsListing h e rows first left top links → IsTaken rows left (Some b) left' → IsLeadingRow h e 2 reads →
      IsApart rows reads b
  listing-apart left left' top b links reads so is leading c x r = go (cases_eq made.c.id.seq b)
    where
      closed : IsClosed rows
      closed = rows_closed h rows g.fits.known g.mean

      o : IsOrderedBy h e 2 c
      o = leading.sound c x

      -- a candidate whose row has the load
      made : IsGenerated h first o.a
      made = g.enough.enough 2 o.a o.rule

      same : (g.enough.sound made.c.id.seq made.has).1.a ≡ made.c
      same = let k = (g.enough.sound made.c.id.seq made.has).1 in
          same_event g.fits.known k.a made.c k.of_hart made.of_hart k.at

      has : RowHas rows made.c.id.seq c
      has = (g.mean made.c.id.seq c).1 (record {
        a = o.a;
        b = made.c;
        a_of_hart = o.of_hart;
        b_of_hart = made.of_hart;
        a_at = o.at;
        b_at = refl;
        memory = subst IsMemory same (g.enough.sound made.c.id.seq made.has).1.rule.from_memory;
        leads = made.leads;
      })

      swept : Swept rows first left' (so.taken ++ b ∷ []) b
      swept = next left left' so.taken top b so.swept is

      go : (made.c.id.seq ≡ b) ⊎ (made.c.id.seq ≡ b → ⊥) → c ≡ b
      go (inl here) =
          let low : c ≤ made.c.id.seq = closed.below made.c.id.seq c has in
          let high : b ≤ c = closed.below c b r in
          omega arith
      go (inr other) = absurd (swept.unsplit b made.c.id.seq (Contains-push so.taken b) made.has other
          (closed.closed made.c.id.seq c b has r))

  -- one link more
  pub listing-more : (left left' : List ℕ) (top b k : ℕ) (links links' : List Link) →
      IsListing h e rows first left top links → IsTaken rows left (Some b) left' → IsLowestRule h e b k →
      links' ≡ links ++ record { id = record { hart = h.number; seq = b }; reason = Preserved k } ∷ [] →
      IsListing h e rows first left' b links'
  listing-more left left' top b k links links' so is lowest more = record {
    taken = so.taken ++ b ∷ [];
    swept = next left left' so.taken top b so.swept is;
    within = let low = so.swept.low b is.0.1 in let within = so.within in omega arith;
    listed = links-more h e so.taken b k links links' so.listed lowest more;
  }

  -- all links
  pub listing-done : (left left' : List ℕ) (top : ℕ) (links : List Link) → IsListing h e rows first left top links →
      IsTaken rows left None left' → AreRuleLinks h e links
  listing-done left left' top links so is = search (links-are, swept-done)

  -- before the first row is joined
  pub gathering-begun : (row : List ℕ) → IsGathering rows first first (length rows) row row
  gathering-begun row = record { taken = []; swept = begun; within = omega arith; gathers = gathers-none rows row }

  -- one row more
  pub gathering-more : (left left' : List ℕ) (top b : ℕ) (base row row' : List ℕ) →
      IsGathering rows first left top base row → IsTaken rows left (Some b) left' →
      ((s : ℕ) → has_bit row' s ≡ (has_bit row s || has_bit (get_or rows b []) s)) →
      IsGathering rows first left' b base row'
  gathering-more left left' top b base row row' so is more = record {
    taken = so.taken ++ b ∷ [];
    swept = next left left' so.taken top b so.swept is;
    within = let low = so.swept.low b is.0.1 in let within = so.within in omega arith;
    gathers = gathers-step rows base so.taken row row' b so.gathers more;
  }

  -- all rows
  pub gathering-done : (left left' : List ℕ) (top : ℕ) (old one row : List ℕ) →
      IsGathering rows first left top one row → IsTaken rows left None left' →
      ((s : ℕ) → has_bit one s ≡ (has_bit old s || (e.id.seq == s))) → (s : ℕ) → Has row s ↔
      (Has old s ⊎ IsBefore (hart_with h e) s e.id.seq)
  gathering-done left left' top old one row so is more = search (row-swept, swept-done)

-- what is no memory operation has no links and an empty row
module _ {h : Hart} {e : Event} (f : Fits h e) (none : IsMemory e → ⊥) where
  -- an event that no rule asks for has no links
  pub links-nothing : (links : List Link) → links ≡ [] → AreRuleLinks h e links
  links-nothing links nil = grind (arith, common_steps)

  -- and no row
  pub row-nothing : (row : List ℕ) → ((s : ℕ) → has_bit row s ≡ false) → (s : ℕ) → Has row s ↔
      IsBefore (hart_with h e) s e.id.seq
  row-nothing row lacks s = (
    λ x. absurd (false≢true (sym (lacks s) ∙ x)),
    λ b. absurd (none (subst IsMemory (same_event (known_with f) b.b e b.b_of_hart
        (Contains-push h.events e) b.b_at) b.memory)),
  )
