-- An entry comes before what was forgotten, as the versions tell, exactly where it comes before the cut's
-- past.
use Rattle.rv_cut.specs.Cuts.{first_of}
use Rattle.rv_endless.specs.Runs.{AreForgotten, IsEdgeIntoPast, bare, limit}
use Rattle.rv_endless.specs.Steps.{IsPastOf, Joins}
use Rattle.rv_endless.specs.declared.run.Endless.{Endless}
use Rattle.rv_event.proofs.Common.{filter-append, map-append}
use Rattle.rv_event.proofs.Indexed.{IndexedWithin, SoundWithin, indexed_from_WellFormed, indexed_within}
use Rattle.rv_event.proofs.Indexed.{sound_from_none}
use Rattle.rv_event.proofs.Names.{Contains-map, Contains-mapped}
use Rattle.rv_event.proofs.Pushed.{within-front, within-last}
use Rattle.rv_event.specs.Edges.{HasReason, IsEdge}
use Rattle.rv_event.specs.Faults.{deps_fault, source_fault}
use Rattle.rv_event.specs.Log.{Earlier, events}
use Rattle.rv_event.specs.Operations.{IsLoad, IsMemory, IsStore}
use Rattle.rv_event.specs.Relations.{Paired}
use Rattle.rv_event.specs.declared.event.Entry.{Entry}
use Rattle.rv_event.specs.declared.event.Event.{Event}
use Rattle.rv_event.specs.declared.memory_model.MemoryModel.{MemoryModel}
use Rattle.rv_event.specs.declared.reason.Reason.{Reason}
use Rattle.rv_event.specs.declared.reason.Reason.TheVariants.{AtomicIn, AtomicOut, Coherence, FromRead}
use Rattle.rv_event.specs.declared.reason.Reason.TheVariants.{Preserved, ReadsFrom}
use Rattle.rv_past.specs.Before.{ComesBefore, IsEdgeTo, LeadsBy, loads_below, stores_below, stores_too_late}
use Rattle.rv_past.specs.Before.{version_by}
use Rattle.rv_past.specs.declared.edge.PastEdge.{PastEdge}
use Rattle.rv_settle.proofs.Bars.{earlier-new}
use Rattle.rv_settle.proofs.Cuts.{new-id}
use Rattle.rv_past.specs.Before.{stores_what_was_returned}
use Rattle.rv_past.specs.Laws.{IsPartner}
use Rattle.rv_settle.proofs.Formed.{window-formed}
use Rattle.rv_settle.proofs.Windows.{into-window, onto-window, paired-back, paired-in}
use Rattle.rv_settle.specs.Past.{ComesBeforePast}
use Rattle.rv_settle.specs.Windows.{IsKept, renumbered, window}
use Rattle.std.proofs.Common.{ℕ, ◌≡◌, ◌∙◌, ◌<◌, ◌++◌, ◌∷◌, ◌↔◌, [], Bool, Contains, IsTrue, List}
use Rattle.std.proofs.Common.{None, Option, Some, ap, arith, filter, map, refl, subst, sym}
use Rattle.std.proofs.lemmas.Bool.{le-leb}
use Rattle.std.proofs.lemmas.Grind.{common_steps}
use Rattle.std.proofs.lemmas.List.Elements.{Contains-append_left, Contains-push}
use Rattle.std.specs.Prelude.{nat_le}
use Rattle.rv_settle.specs.Past as settled

-- loads and stores are memory operations, as are SCs
load-memory : (e : Event) → IsLoad e → IsMemory e
load-memory e load = grind (arith, common_steps)

store-memory : (e : Event) → IsStore e → IsMemory e
store-memory e store = grind (arith, common_steps)

sc-memory : (log : List Event) (lr sc : Event) → Paired log lr sc → IsMemory sc
sc-memory log lr sc pair = rw pair.is_sc

-- the window of a log with one entry more, which is kept, has it more
pub window-more : (first : ℕ → ℕ) (log : List Entry) (x : Entry) → IsKept first x.event →
    window first (log ++ x ∷ []) ≡ window first log ++ record x { event = renumbered first x.event } ∷ []
window-more first log x kept =
    ap (map to_window) (filter-append is_kept log (x ∷ []) ∙ ap (λ (xs : List Entry). filter is_kept log ++ xs) one)
    ∙ map-append to_window (filter is_kept log) (x ∷ [])
  where
    is_kept : Entry → Bool
    is_kept y = nat_le (first y.event.id.hart) y.event.id.seq

    to_window : Entry → Entry
    to_window y = record y { event = renumbered first y.event }

    one : filter is_kept (x ∷ []) ≡ x ∷ []
    one = rw (le-leb (first x.event.id.hart) x.event.id.seq kept) refl

module _ (run : Endless) (log gone : List Entry) (x : Entry) (past : Event → Bool)
    (forgotten : AreForgotten run log gone) (of : IsPastOf run log past) (joined : Joins run log x) where
  abbrev first : ℕ → ℕ
  first = first_of run.firsts

  abbrev new : List Event
  new = events (log ++ x ∷ [])

  abbrev w : List Event
  w = events (window first (log ++ x ∷ []))

  -- what was forgotten is of the past, but for its dependencies
  gone-past : (p : Event) → Contains (events gone) p →
      (q : Event) × IsTrue (past q) × (record q { deps = [] } ≡ p)
  gone-past p c =
      let y = Contains-map (λ (z : Entry). z.event) gone p c in
      let there = (forgotten.each y.0).0 y.1 in (
        there.0.event,
        (of.below there.0.event (Contains-mapped (λ (z : Entry). z.event) log there.0 there.1)).1 there.2,
        ap (λ (z : Entry). z.event) there.3 ∙ y.2,
      )

  -- and the other way round
  past-gone : (p : Event) → IsTrue (past p) → Contains (events gone) (record p { deps = [] })
  past-gone p is =
      let there = of.of_log p is in
      let z = Contains-map (λ (z : Entry). z.event) log p there in
      let low = subst (λ (e : Event). e.id.seq < first e.id.hart) (sym z.2) ((of.below p there).0 is) in
      subst (λ (e : Event). Contains (events gone) (record e { deps = [] })) z.2
      (Contains-mapped (λ (z : Entry). z.event) gone (bare z.0) ((forgotten.each (bare z.0)).1 (z.0, z.1, low, refl)))

  known : IndexedWithin limit new
  known = indexed_within limit (log ++ x ∷ []) joined.formed

  known-window : IndexedWithin 4096 w
  known-window = indexed_from_WellFormed (window first (log ++ x ∷ []))
      (window-formed limit (log ++ x ∷ []) first joined.formed joined.pairs joined.few)

  -- the event is the last of the log
  here : Contains new x.event
  here = subst (λ (es : List Event). Contains es x.event) (sym (map-append (λ (y : Entry). y.event) log (x ∷ [])))
      (Contains-push (events log) x.event)

  module _ (lr : Option Event) (partner : IsPartner w (renumbered first x.event) lr) where
    -- what comes before what was forgotten comes before the past
    before-past : ComesBefore (events gone) lr x.event → ComesBeforePast new past x.event
    before-past (loads_below p c s load word less) =
        let q = gone-past p c in
        settled.loads_below q.0 q.1 (subst IsStore (sym q.2) s) load (ap (λ (e : Event). e.word) q.2 ∙ word)
        (subst (λ (e : Event). x.event.read < e.wrote) (sym q.2) less)
    before-past (stores_below p c s store word less) =
        let q = gone-past p c in
        settled.stores_below q.0 q.1 (subst IsStore (sym q.2) s) store (word ∙ sym (ap (λ (e : Event). e.word) q.2))
        (subst (λ (e : Event). x.event.wrote < e.wrote) (sym q.2) less)
    before-past (stores_what_was_returned p c load store word same) =
        let q = gone-past p c in
        settled.stores_what_was_returned q.0 q.1 (subst IsLoad (sym q.2) load) store
        (ap (λ (e : Event). e.word) q.2 ∙ word) (ap (λ (e : Event). e.read) q.2 ∙ same)
    before-past (stores_too_late r p is c s word apart less) =
        let own = subst (λ (o : Option Event). IsPartner w (renumbered first x.event) o) is partner in
        let from = onto-window first (log ++ x ∷ []) r own.0 in
        let paired : Paired w (renumbered first from.0) (renumbered first x.event) =
        subst (λ (e : Event). Paired w e (renumbered first x.event)) (sym from.3) own.1 in
        let q = gone-past p c in
        settled.stores_too_late from.0 q.0 from.1
        (paired-back new w first known known-window (into-window first (log ++ x ∷ []))
        (onto-window first (log ++ x ∷ [])) from.0 x.event from.2 joined.kept paired)
        q.1 (subst IsStore (sym q.2) s)
        (ap (λ (e : Event). e.word) q.2 ∙ word ∙ ap (λ (e : Event). e.word) (sym from.3))
        (λ same. apart (sym (ap (λ (e : Event). e.id.hart) q.2) ∙ same))
        (subst (λ (e : Event). e.read < q.0.wrote) (sym from.3)
        (subst (λ (e : Event). r.read < e.wrote) (sym q.2) less))

    -- and the other way round
    past-before : ComesBeforePast new past x.event → ComesBefore (events gone) lr x.event
    past-before (settled.loads_below p is s load word less) =
        loads_below (record p { deps = [] }) (past-gone p is) s load word less
    past-before (settled.stores_below p is s store word less) =
        stores_below (record p { deps = [] }) (past-gone p is) s store word less
    past-before (settled.stores_what_was_returned p is load store word same) =
        stores_what_was_returned (record p { deps = [] }) (past-gone p is) load store word same
    past-before (settled.stores_too_late r p c paired is s word apart less) = go lr refl partner
      where
        kept : IsKept first r
        kept = joined.pairs x.event here joined.kept r c paired

        there : Contains w (renumbered first r)
        there = into-window first (log ++ x ∷ []) r c kept

        pair : Paired w (renumbered first r) (renumbered first x.event)
        pair = paired-in new w first known known-window (into-window first (log ++ x ∷ []))
            (onto-window first (log ++ x ∷ [])) r x.event kept joined.kept paired

        go : (o : Option Event) → lr ≡ o → IsPartner w (renumbered first x.event) o →
            ComesBefore (events gone) lr x.event
        go None is' none = absurd (none (renumbered first r) there pair)
        go (Some q) is' own =
            let same = own.2 (renumbered first r) there pair in
            stores_too_late q (record p { deps = [] }) is' (past-gone p is) s
            (word ∙ ap (λ (e : Event). e.word) same) apart
            (subst (λ (e : Event). e.read < p.wrote) same less)

    -- so they are the same
    pub before-same : ComesBefore (events gone) lr x.event ↔ ComesBeforePast new past x.event
    before-same = (before-past, past-before)

    -- an edge to one of the events that were forgotten is one to that event of the past, for the same reason
    module _ (model : MemoryModel) where
      old : IndexedWithin limit (events log)
      old = indexed_within limit log (within-front limit log (x ∷ []) joined.formed)

      sound : SoundWithin limit (events log) x.event
      sound = sound_from_none (events log) x.event (source_fault log x ∷ deps_fault x.event ∷ [])
          (within-last limit log x joined.formed)

      in-log : (p : Event) (c : Contains (events gone) p) → Contains (events log) (gone-past p c).0
      in-log p c = of.of_log (gone-past p c).0 (gone-past p c).1

      whole : events (log ++ x ∷ []) ≡ events log ++ x.event ∷ []
      whole = map-append (λ (y : Entry). y.event) log (x ∷ [])

      old-new : (p : Event) → Contains (events log) p → Contains new p
      old-new p c = subst (λ (es : List Event). Contains es p) (sym whole)
          (Contains-append_left (events log) (x.event ∷ []) p c)

      own-new : Contains new x.event
      own-new = subst (λ (es : List Event). Contains es x.event) (sym whole) (Contains-push (events log) x.event)

      not-earlier : (p : Event) → Contains (events log) p → Earlier x.event p → ⊥
      not-earlier p c earlier =
          let later = earlier-new model (events log) x.event old sound p c (sym earlier.hart) in
          omega (arith, earlier.seq, later.seq)

      holds : (reason : Reason) (p : Event) (c : Contains (events gone) p) → LeadsBy lr x.event reason p →
          HasReason model new reason x.event (gone-past p c).0 × IsMemory x.event × IsMemory (gone-past p c).0
      holds (Preserved k) p c none = absurd none
      holds AtomicIn p c none = absurd none
      holds FromRead p c (s, load, word, less) =
          let q = gone-past p c in
          let store = subst IsStore (sym q.2) s in (
            record {
              load = load;
              store = store;
              other = λ same. new-id model (events log) x.event old sound q.0 (in-log p c) (sym same);
              word = ap (λ (e : Event). e.word) q.2 ∙ word;
              versions = subst (λ (e : Event). x.event.read < e.wrote) (sym q.2) less;
            },
            load-memory x.event load,
            store-memory q.0 store,
          )
      holds Coherence p c (s, own, word, less) =
          let q = gone-past p c in
          let store = subst IsStore (sym q.2) s in (
            record {
              first = own;
              second = store;
              word = word ∙ sym (ap (λ (e : Event). e.word) q.2);
              versions = subst (λ (e : Event). x.event.wrote < e.wrote) (sym q.2) less;
            },
            store-memory x.event own,
            store-memory q.0 store,
          )
      holds ReadsFrom p c (l, own, word, same) =
          let q = gone-past p c in
          let load = subst IsLoad (sym q.2) l in
          let here = ap (λ (e : Event). e.word) q.2 ∙ word in
          let version = ap (λ (e : Event). e.read) q.2 ∙ same in (
            record {
              load = load;
              is_writer = rw (here, version) (known.written x.event own-new own);
              not_earlier = not-earlier q.0 (in-log p c);
            },
            store-memory x.event own,
            load-memory q.0 load,
          )
      holds AtomicOut p c (r, is, s, word, apart, less) =
          let own = subst (λ (o : Option Event). IsPartner w (renumbered first x.event) o) is partner in
          let from = onto-window first (log ++ x ∷ []) r own.0 in
          let paired : Paired w (renumbered first from.0) (renumbered first x.event) =
          subst (λ (e : Event). Paired w e (renumbered first x.event)) (sym from.3) own.1 in
          let back = paired-back new w first known known-window (into-window first (log ++ x ∷ []))
          (onto-window first (log ++ x ∷ [])) from.0 x.event from.2 joined.kept paired in
          let q = gone-past p c in
          let store = subst IsStore (sym q.2) s in (
            record {
              lr = from.0;
              of_log = from.1;
              paired = back;
              store = store;
              word = ap (λ (e : Event). e.word) q.2 ∙ word ∙ ap (λ (e : Event). e.word) (sym from.3);
              other_hart = λ same. apart (sym (ap (λ (e : Event). e.id.hart) q.2) ∙ same);
              versions = subst (λ (e : Event). e.read < q.0.wrote) (sym from.3)
                  (subst (λ (e : Event). r.read < e.wrote) (sym q.2) less);
            },
            sc-memory new from.0 x.event back,
            store-memory q.0 store,
          )

      same-version : (reason : Reason) (p : Event) (c : Contains (events gone) p) →
          version_by reason (gone-past p c).0 ≡ version_by reason p
      same-version (Preserved k) p c = ap (λ (e : Event). e.wrote) (gone-past p c).2
      same-version Coherence p c = ap (λ (e : Event). e.wrote) (gone-past p c).2
      same-version ReadsFrom p c = ap (λ (e : Event). e.read) (gone-past p c).2
      same-version FromRead p c = ap (λ (e : Event). e.wrote) (gone-past p c).2
      same-version AtomicIn p c = ap (λ (e : Event). e.wrote) (gone-past p c).2
      same-version AtomicOut p c = ap (λ (e : Event). e.wrote) (gone-past p c).2

      pub edge-into : (edge : PastEdge) → model ≡ run.book.model → IsEdgeTo (events gone) lr x.event edge →
          IsEdgeIntoPast run log x edge
      edge-into edge is leads =
          let q = gone-past leads.past leads.of_gone in
          let there = in-log leads.past leads.of_gone in
          let why = holds edge.reason leads.past leads.of_gone leads.why in
          record {
            past = q.0;
            of_log = there;
            forgotten = (of.below q.0 there).0 q.1;
            leads = subst (λ (m : MemoryModel). IsEdge m new x.event.id edge.reason q.0.id) is (record {
              a = x.event;
              b = q.0;
              from_named = known.own x.event own-new;
              to_named = known.own q.0 (old-new q.0 there);
              from_memory = why.1;
              to_memory = why.2;
              why = why.0;
            });
            word = ap (λ (e : Event). e.word) q.2 ∙ leads.word;
            version = same-version edge.reason leads.past leads.of_gone ∙ leads.version;
          }

    -- so the event comes before what was forgotten
    pub edge-before : (edge : PastEdge) → IsEdgeTo (events gone) lr x.event edge → ComesBefore (events gone) lr x.event
    edge-before edge leads = go edge.reason leads.why
      where
        go : (reason : Reason) → LeadsBy lr x.event reason leads.past → ComesBefore (events gone) lr x.event
        go (Preserved k) none = absurd none
        go AtomicIn none = absurd none
        go FromRead (s, load, word, less) = loads_below leads.past leads.of_gone s load word less
        go Coherence (s, own, word, less) = stores_below leads.past leads.of_gone s own word less
        go ReadsFrom (l, own, word, same) = stores_what_was_returned leads.past leads.of_gone l own word same
        go AtomicOut (r, is, s, word, apart, less) =
            stores_too_late r leads.past is leads.of_gone s word apart less
