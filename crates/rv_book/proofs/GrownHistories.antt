-- A history with one more event stays arranged.
use Rattle.rv_book.proofs.Common.{common_steps, rules, ◌≡◌, ◌≢◌, ℕ, ◌+◌, ◌<◌, List, [], ◌∷◌, ◌++◌, length}
use Rattle.rv_book.proofs.Common.{Contains, ◌⊎◌, inl, inr, refl, sym, ap, ◌∙◌, arith, subst, Some, cases_eq}
use Rattle.rv_book.proofs.Common.{get_or_push, get_or_append_left, length_push, Contains-push_cases}
use Rattle.rv_book.proofs.Common.{Contains-push, IsMemory, named, Earlier, of_hart, IsOperation, IsEdge, IsStale}
use Rattle.rv_book.proofs.Common.{named-is, Indexed, Sound, indexed-push, find-append_some, sound_of}
use Rattle.rv_book.proofs.Common.{IsEdge-grows, grows-push, Id, Event, Entry, Link, Reason, Kept, happened, grown}
use Rattle.rv_book.proofs.Common.{Joins, IsKept, Contains-old, indexed_from_IsHistory, carried_from_IsHistory}
use Rattle.rv_book.proofs.Common.{happened-push, IsKept-cases, IsHistory-push, Edge, IsOrder, IsGrown, IsFit}
use Rattle.rv_book.proofs.Common.{Arranged, nobody, at, IsArranged, HasNode, AreNodes}
use Rattle.rv_book.proofs.ForwardOrders.{from_operation, to_operation, node_of}

module _ (v : Arranged) (ok : IsArranged v) (k : Kept) (fit : IsFit v k) where
  abbrev old : List Event
  old = happened v.history

  abbrev new : List Event
  new = grown v.history k.event

  known : Indexed old
  known = indexed_from_IsHistory v.model v.history ok.history

  sound : Sound old k.event
  sound = sound_of old k.event fit.joined.sound

  known' : Indexed new
  known' = indexed-push old k.event known sound

  same : happened (v.history ++ k ∷ []) ≡ new
  same = happened-push v.history k

  -- the edges of the history stay
  pub grow : (i j : Id) (r : Reason) → IsEdge v.model old i r j → IsEdge v.model new i r j
  grow i j r e = IsEdge-grows v.model old new (grows-push old k.event) known known' i j r e

  -- the new id is no old event's
  fresh : (x : Event) → Contains old x → x.id ≢ k.event.id
  fresh x c e =
      let low : x.id.seq < length (of_hart x.id.hart old) = known.below x c in
      let low' : k.event.id.seq < length (of_hart k.event.id.hart old) = search rules in
      let s : k.event.id.seq ≡ length (of_hart k.event.id.hart old) = sound.seq in
      omega (arith, low', s)

  -- nothing old is later than the new event
  none_later : (x : Event) → Contains old x → Earlier k.event x → ⊥
  none_later x c e =
      let low : x.id.seq < length (of_hart x.id.hart old) = known.below x c in
      let low' : x.id.seq < length (of_hart k.event.id.hart old) = grind (arith, common_steps) in
      let s : k.event.id.seq ≡ length (of_hart k.event.id.hart old) = sound.seq in
      omega (arith, low', s, e.seq)

  stays : (i : Id) → IsOperation old i → IsOperation new i
  stays i op = search (find-append_some, rules)

  -- an operation is an old one, or the new event
  operation_cases : (i : Id) → IsOperation new i → IsOperation old i ⊎ ((i ≡ k.event.id) × IsMemory k.event)
  operation_cases i op =
      let is = named-is new i op.event op.is_named in
      elim (Contains-push_cases old k.event op.event is.0) [
        | inl c ↦ inl (record {
          event = op.event;
          is_named = subst (λ (x : Id). named old x ≡ Some op.event) (sym is.1)
              (known.own op.event c);
          is_memory = op.is_memory;
        })
        | inr e ↦ inr (is.1 ∙ ap (λ (x : Event). x.id) (sym e), subst IsMemory (sym e) op.is_memory)
      ]

  -- no operation of the history has the new id
  pub old_is_not_new : (i : Id) → IsOperation old i → i ≢ k.event.id
  old_is_not_new i op e =
      let is = named-is old i op.event op.is_named in
      fresh op.event is.0 (sym is.1 ∙ e)

  none_itself' : (i : Id) (r : Reason) → IsEdge v.model (happened (v.history ++ k ∷ [])) i r i → ⊥
  none_itself' i r e =
      let f : IsEdge v.model new i r i = subst (λ (l : List Event). IsEdge v.model l i r i) same e in
      elim (fit.joined.linked.ended i i r f) [
        | inl o ↦ ok.none_itself i r o
        | inr at' ↦ elim at' [
          | inl q ↦ fit.none_own (r, subst (λ (x : Id). IsEdge v.model new x r x) q f)
          | inr q ↦ fit.none_own (r, subst (λ (x : Id). IsEdge v.model new x r x) q f)
        ]
      ]

  stale_old : (i s : Id) → IsStale new i s → ⊥
  stale_old i s h =
      let a = named-is new i h.a h.load_named in
      let b = named-is new s h.b h.store_named in
      elim (Contains-push_cases old k.event h.a a.0) [
        | inr e ↦ fit.not_stale s (subst (λ (x : Id). IsStale new x s) (a.1 ∙ ap (λ (x : Event). x.id) (sym e)) h)
        | inl ca ↦ elim (Contains-push_cases old k.event h.b b.0) [
          | inr e ↦ none_later h.a ca (subst (λ (x : Event). Earlier x h.a) (sym e) h.earlier)
          | inl cb ↦ ok.none_stale i s (record {
            a = h.a;
            b = h.b;
            load_named = subst (λ (x : Id). named old x ≡ Some h.a) (sym a.1) (known.own h.a ca);
            store_named = subst (λ (x : Id). named old x ≡ Some h.b) (sym b.1) (known.own h.b cb);
            is_load = h.is_load;
            is_store = h.is_store;
            word = h.word;
            earlier = h.earlier;
            versions = h.versions;
          })
        ]
      ]

  none_stale' : (i s : Id) → IsStale (happened (v.history ++ k ∷ [])) i s → ⊥
  none_stale' i s h = stale_old i s (subst (λ (l : List Event). IsStale l i s) same h)

  -- a link of the new event has an end at it that is a memory operation
  new_memory : (i j : Id) (r : Reason) → Joins k i r j → IsMemory k.event
  new_memory i j r w =
      let e = fit.joined.linked.listed i j r w in
      elim w [
        | inl q ↦ elim (operation_cases j (to_operation v.model new i j r e))
            [ inl o ↦ absurd (old_is_not_new j o q.0) | inr m ↦ m.1 ]
        | inr q ↦ elim (operation_cases i (from_operation v.model new i j r e))
            [ inl o ↦ absurd (old_is_not_new i o q.0) | inr m ↦ m.1 ]
      ]

  -- an event that is no memory operation joins the history alone
  pub arranged_aside : (log : List Entry) → (IsMemory k.event → ⊥) →
      IsArranged (record {
        model = v.model;
        log = log;
        history = v.history ++ k ∷ [];
        edges = v.edges;
        ranks = v.ranks;
        ids = v.ids;
      })
  arranged_aside log aside = record {
    history = IsHistory-push v.model v.history k ok.history fit.joined;
    ordered = ok.ordered;
    long = ok.long;
    few = omega (arith, ok.few, length_push v.history k);
    each = λ i op. elim (operation_cases i (subst (λ (l : List Event). IsOperation l i) same op))
        [ inl o ↦ ok.each i o | inr m ↦ absurd (aside m.1) ];
    only = λ a l. subst (λ (g : List Event). IsOperation g (at v.ids a)) (sym same) (stays (at v.ids a) (ok.only a l));
    once = ok.once;
    inside = ok.inside;
    true_edges = λ a b e. let w = ok.true_edges a b e in (
      w.0,
      subst (λ (g : List Event). IsEdge v.model g (at v.ids a) w.0 (at v.ids b)) (sym same)
          (grow (at v.ids a) (at v.ids b) w.0 w.1),
    );
    tied = λ a b r la lb h. elim (IsKept-cases v.model v.history k (at v.ids a) (at v.ids b) r h) [
      | inl o ↦ ok.tied a b r la lb o
      | inr w ↦ absurd (aside (new_memory (at v.ids a) (at v.ids b) r w))
    ];
    none_itself = none_itself';
    none_stale = none_stale';
  }

  -- each linked event has a node
  pub before_node : (l : Link) → Contains k.before l → HasNode v.ids l.id
  before_node l c =
      let w : Joins k l.id l.reason k.event.id = inl (refl, c) in
      let e = fit.joined.linked.listed l.id k.event.id l.reason w in
      elim (operation_cases l.id (from_operation v.model new l.id k.event.id l.reason e)) [
        | inl o ↦ node_of v ok l.id o
        | inr m ↦ absurd (fit.joined.linked.other l.id k.event.id l.reason w m.0)
      ]

  -- each link out of the event leads to a node
  pub after_node : (l : Link) → Contains k.after l → HasNode v.ids l.id
  after_node l c =
      let w : Joins k k.event.id l.reason l.id = inr (refl, c) in
      let e = fit.joined.linked.listed k.event.id l.id l.reason w in
      elim (operation_cases l.id (to_operation v.model new k.event.id l.id l.reason e)) [
        | inl o ↦ node_of v ok l.id o
        | inr m ↦ absurd (fit.joined.linked.other k.event.id l.id l.reason w (sym m.0))
      ]

  module _ (preds succs : List ℕ) (ins : AreNodes v.ids k.before preds) (outs : AreNodes v.ids k.after succs) where
    -- each predecessor has an edge to the event
    pub pred_edge : (p : ℕ) → Contains preds p → (r : Reason) × IsEdge v.model new (at v.ids p) r k.event.id
    pred_edge p c =
        let l = ins.linked p c in (
          l.0.reason,
          subst (λ (x : Id). IsEdge v.model new x l.0.reason k.event.id) (sym l.2)
              (fit.joined.linked.listed l.0.id k.event.id l.0.reason (inl (refl, l.1))),
        )

    -- each successor has an edge from the event
    pub succ_edge : (s : ℕ) → Contains succs s → (r : Reason) × IsEdge v.model new k.event.id r (at v.ids s)
    succ_edge s c =
        let l = outs.linked s c in (
          l.0.reason,
          subst (λ (x : Id). IsEdge v.model new k.event.id l.0.reason x) (sym l.2)
              (fit.joined.linked.listed k.event.id l.0.id l.0.reason (inr (refl, l.1))),
        )

    module _ (memory : IsMemory k.event) (edges : List (List ℕ)) (ranks : List ℕ)
        (g : IsGrown v.edges edges preds succs) (ordered : IsOrder edges ranks) where
      abbrev ids : List Id
      ids = v.ids ++ k.event.id ∷ []

      long' : length ids ≡ length v.ids + 1
      long' = length_push v.ids k.event.id

      nodes : length v.ids ≡ length v.edges
      nodes = ok.long ∙ ok.ordered.long

      at-old : (a : ℕ) → a < length v.ids → at ids a ≡ at v.ids a
      at-old a l = get_or_append_left v.ids (k.event.id ∷ []) nobody a l

      at-new : (a : ℕ) → a ≡ length v.ids → at ids a ≡ k.event.id
      at-new a e = get_or_push v.ids k.event.id nobody a (sym e)

      -- a node is an old one, or the new
      node_cases : (a : ℕ) → a < length ids → (a < length v.ids) ⊎ (a ≡ length v.ids)
      node_cases a l = elim (cases_eq a (length v.ids)) [ inl e ↦ inr e | inr n ↦ inl (omega (arith, l, long', n)) ]

      not_new : (a : ℕ) → a < length v.ids → at v.ids a ≢ k.event.id
      not_new a l = old_is_not_new (at v.ids a) (ok.only a l)

      -- a node whose id is the new event's is new, and one with another is old
      is_new : (a : ℕ) → a < length ids → at ids a ≡ k.event.id → a ≡ length v.ids
      is_new a l e = elim (node_cases a l) [ inl o ↦ absurd (not_new a o (sym (at-old a o) ∙ e)) | inr n ↦ n ]

      is_old : (a : ℕ) → a < length ids → at ids a ≢ k.event.id → a < length v.ids
      is_old a l e = elim (node_cases a l) [ inl o ↦ o | inr n ↦ absurd (e (at-new a n)) ]

      once' : (a b : ℕ) → a < length ids → b < length ids → at ids a ≡ at ids b → a ≡ b
      once' a b la lb e = elim (node_cases a la) [
        | inr n ↦ n ∙ sym (is_new b lb (sym e ∙ at-new a n))
        | inl o ↦ elim (node_cases b lb) [
          | inr n ↦ absurd (not_new a o (sym (at-old a o) ∙ e ∙ at-new b n))
          | inl p ↦ ok.once a b o p (sym (at-old a o) ∙ e ∙ at-old b p)
        ]
      ]

      inside' : (a b : ℕ) → Edge edges a b → (a < length ids) × (b < length ids)
      inside' a b e = elim (g.only a b e) [
        | inl o ↦ let w = ok.inside a b o in (omega (arith, w.0, long'), omega (arith, w.1, long'))
        | inr f ↦ elim f [
          | inl w ↦ let l = ins.low a w.1 in (omega (arith, l, long'), omega (arith, w.0, nodes, long'))
          | inr w ↦ let l = outs.low b w.1 in (omega (arith, w.0, nodes, long'), omega (arith, l, long'))
        ]
      ]

      true_edges' : (a b : ℕ) → Edge edges a b → (r : Reason) × IsEdge v.model new (at ids a) r (at ids b)
      true_edges' a b e = elim (g.only a b e) [
        | inl o ↦
            let i = ok.inside a b o in
            let w = ok.true_edges a b o in
            (w.0, rw (at-old a i.0, at-old b i.1) (grow (at v.ids a) (at v.ids b) w.0 w.1))
        | inr f ↦ elim f [
          | inl w ↦ let p = pred_edge a w.1 in (p.0, rw (at-old a (ins.low a w.1), at-new b (w.0 ∙ sym nodes)) p.1)
          | inr w ↦ let p = succ_edge b w.1 in (p.0, rw (at-old b (outs.low b w.1), at-new a (w.0 ∙ sym nodes)) p.1)
        ]
      ]

      tied' : (a b : ℕ) (r : Reason) → a < length ids → b < length ids → IsKept (v.history ++ k ∷ []) (at ids a) r
          (at ids b) → Edge edges a b
      tied' a b r la lb h = elim (IsKept-cases v.model v.history k (at ids a) (at ids b) r h) [
        | inl o ↦
            let e = (carried_from_IsHistory v.model v.history ok.history).true_edges (at ids a) (at ids b) r o in
            let oa = is_old a la (old_is_not_new (at ids a) (from_operation v.model old (at ids a) (at ids b) r e)) in
            let ob = is_old b lb (old_is_not_new (at ids b) (to_operation v.model old (at ids a) (at ids b) r e)) in
            let o' : IsKept v.history (at v.ids a) r (at v.ids b) =
            subst (λ (x : Id). IsKept v.history x r (at v.ids b)) (at-old a oa)
            (subst (λ (x : Id). IsKept v.history (at ids a) r x) (at-old b ob) o) in
            g.kept a b (ok.tied a b r oa ob o')
        | inr w ↦ elim w [
          | inl q ↦
              let nb = is_new b lb q.0 in
              let oa = is_old a la (λ p. fit.joined.linked.other (at ids a) (at ids b) r (inl q) (p ∙ sym q.0)) in
              let n = ins.each (record { id = at ids a; reason = r }) q.1 in
              let e : n.0 ≡ a = ok.once n.0 a (ins.low n.0 n.1) oa (n.2 ∙ at-old a oa) in
              subst (Edge edges a) (sym (nb ∙ nodes)) (g.before a (subst (Contains preds) e n.1))
          | inr q ↦
              let na = is_new a la q.0 in
              let ob = is_old b lb (λ p. fit.joined.linked.other (at ids a) (at ids b) r (inr q) (q.0 ∙ sym p)) in
              let n = outs.each (record { id = at ids b; reason = r }) q.1 in
              let e : n.0 ≡ b = ok.once n.0 b (outs.low n.0 n.1) ob (n.2 ∙ at-old b ob) in
              subst (λ x. Edge edges x b) (sym (na ∙ nodes)) (g.after b (subst (Contains succs) e n.1))
        ]
      ]

      new_operation : IsOperation new k.event.id
      new_operation = record {
        event = k.event;
        is_named = known'.own k.event (Contains-push old k.event);
        is_memory = memory;
      }

      -- the history with the event and its node is arranged
      pub arranged_node : (log : List Entry) → IsArranged (record {
        model = v.model;
        log = log;
        history = v.history ++ k ∷ [];
        edges = edges;
        ranks = ranks;
        ids = ids;
      })
      arranged_node log = record {
        history = IsHistory-push v.model v.history k ok.history fit.joined;
        ordered = ordered;
        long = omega (arith, long', nodes, g.long, ordered.long);
        few = omega (arith, ok.few, length_push v.history k, long');
        each = λ i op. elim (operation_cases i (subst (λ (l : List Event). IsOperation l i) same op)) [
          | inl o ↦ Contains-old v.ids k.event.id i (ok.each i o)
          | inr m ↦ subst (Contains ids) (sym m.0) (Contains-push v.ids k.event.id)
        ];
        only = λ a l. subst (λ (h : List Event). IsOperation h (at ids a)) (sym same) (elim (node_cases a l) [
          | inl o ↦ subst (IsOperation new) (sym (at-old a o)) (stays (at v.ids a) (ok.only a o))
          | inr n ↦ subst (IsOperation new) (sym (at-new a n)) new_operation
        ]);
        once = once';
        inside = inside';
        true_edges = λ a b e. let w = true_edges' a b e in
            (w.0, subst (λ (h : List Event). IsEdge v.model h (at ids a) w.0 (at ids b)) (sym same) w.1);
        tied = tied';
        none_itself = none_itself';
        none_stale = none_stale';
      }
