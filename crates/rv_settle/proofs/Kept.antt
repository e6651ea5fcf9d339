-- What is kept, and the versions of the past, decide whether some order is lawful.
use Rattle.std.proofs.Common.{◌++◌, ◌∷◌, ◌≡◌, ◌≢◌, ◌⊎◌, ◌∙◌, ◌<◌, [], Bool, Contains, IsFalse}
use Rattle.std.proofs.Common.{IsTrue, List}
use Rattle.std.proofs.Common.{None, Option, Some, ap, arith, false, filter, inl, inr, not, refl}
use Rattle.std.proofs.Common.{subst, sym, true, ℕ}
use Rattle.std.proofs.lemmas.Grind.{common_steps}
use Rattle.std.proofs.lemmas.List.Elements.{Contains-append_cases, Contains-append_left}
use Rattle.std.proofs.lemmas.List.Elements.{Contains-append_right, Contains-push_cases}
use Rattle.std.proofs.lemmas.List.Kept.{AllPairs-filter}
use Rattle.std.proofs.lemmas.Option.{same_Some}
use Rattle.rv_cert.proofs.Forward.{edge-forward, no_certificate}
use Rattle.rv_cert.proofs.Suffice.{lawful_from_edges}
use Rattle.rv_cert.specs.declared.certificate.Certificate.TheVariants.{Stale}
use Rattle.rv_event.proofs.Indexed.{IndexedWithin, SoundWithin, indexed-push}
use Rattle.rv_event.proofs.Merged.{Contains-filter}
use Rattle.rv_event.proofs.Names.{named-is}
use Rattle.rv_event.proofs.Settled.{edge-push}
use Rattle.rv_event.specs.Edges.{IsEdge, IsStale}
use Rattle.rv_event.specs.Log.{Earlier, named}
use Rattle.rv_event.specs.Operations.{IsLoad, IsMemory}
use Rattle.rv_event.specs.Orders.{IsOperation, IsOrderOf, Lawful, place}
use Rattle.rv_event.specs.declared.event.Event.{Event}
use Rattle.rv_event.specs.declared.event.Id.{Id}
use Rattle.rv_event.specs.declared.memory_model.MemoryModel.{MemoryModel}
use Rattle.rv_event.specs.declared.reason.Reason.{Reason}
use Rattle.rv_settle.proofs.Bars.{earlier-new}
use Rattle.rv_settle.proofs.Cuts.{cut-stays, new-id, none-back}
use Rattle.rv_settle.proofs.Filtered.{filter-kept, once-append, place-filter}
use Rattle.rv_settle.proofs.Joined.{joined-forward, not-both}
use Rattle.rv_settle.proofs.Seen.{edge-seen, seen-edge}
use Rattle.rv_settle.specs.Cuts.{GoesForward, IsCut, IsOrderOfKept, IsParted, NoneStaleKept}
use Rattle.rv_settle.specs.Past.{ComesBeforePast, loads_below}

-- whether an event that was named is of the past, or is kept
abbrev is_gone : (Event → Bool) → Option Event → Bool
is_gone past None = false
is_gone past (Some a) = past a

abbrev is_kept : (Event → Bool) → Option Event → Bool
is_kept past None = false
is_kept past (Some a) = not (past a)

not-true : (b : Bool) → IsFalse b → not b ≡ true
not-true b fails = grind (arith, common_steps)

true-not : (b : Bool) → not b ≡ true → IsFalse b
true-not b passes = grind (arith, common_steps)

module _ (log : List Event) (past : Event → Bool) (order : List Id) (whole : IsOrderOf log order) where
  -- the operations of an order that are kept, in that order
  pub kept : List Id
  kept = filter (λ i. is_kept past (named log i)) order

  -- these are the operations that are kept, each once
  pub kept-order : IsOrderOfKept log past kept
  unfolding kept
  kept-order = record {
    each = λ i a is memory fails.
        Contains-filter (λ j. is_kept past (named log j)) order i
        (whole.each i (record { event = a; is_named = is; is_memory = memory }))
        (ap (is_kept past) is ∙ not-true (past a) fails);
    nothing_else = λ i c.
        let there = filter-kept (λ j. is_kept past (named log j)) order i c in
        let op = whole.nothing_else i there.0 in (
          op.event,
          op.is_named,
          op.is_memory,
          true-not (past op.event) (sym (ap (is_kept past) op.is_named) ∙ there.1),
        );
    once = AllPairs-filter (λ i j. i ≢ j) (λ j. is_kept past (named log j)) order whole.once;
  }

  -- edges go forward among them where all do
  pub kept-forward : (model : MemoryModel) →
      ((i j : Id) (reason : Reason) → IsEdge model log i reason j → place order i < place order j) →
      GoesForward model log kept
  unfolding kept
  kept-forward model forward i j reason ci cj edge =
      let test = λ (k : Id). is_kept past (named log k) in
      place-filter test order i j (filter-kept test order i ci).1 (filter-kept test order j cj).1
      (forward i j reason edge)

module _ {limit : ℕ} (model : MemoryModel) (log : List Event) (e : Event) (known : IndexedWithin limit log)
    (sound : SoundWithin limit log e)
    (active : List ℕ) (past : Event → Bool) (cut : IsCut model log active past) where
  -- what a lawful order tells of what is kept
  pub needed : (order : List Id) → Contains active e.id.hart → Lawful model (log ++ e ∷ []) order →
      NoneStaleKept (log ++ e ∷ []) past × (ComesBeforePast (log ++ e ∷ []) past e → ⊥)
      × ((rest : List Id) × IsOrderOfKept (log ++ e ∷ []) past rest × GoesForward model (log ++ e ∷ []) rest)
  unfolding kept
  needed order is_active lawful = (
    λ load store stale _ _. no_certificate model (log ++ e ∷ []) order lawful (Stale load store) stale,
    λ before.
        let back = seen-edge model log e known sound active past cut before in
        none-back model log e known sound active past cut order is_active lawful back.0 back.2.0 back.1 back.2.1,
    (
      kept (log ++ e ∷ []) past order lawful.is_order,
      kept-order (log ++ e ∷ []) past order lawful.is_order,
      λ i j reason ci cj edge.
          let test = λ (k : Id). is_kept past (named (log ++ e ∷ []) k) in
          place-filter test order i j (filter-kept test order i ci).1 (filter-kept test order j cj).1
          (edge-forward model (log ++ e ∷ []) order lawful i j reason edge),
    ),
  )

  known' : IndexedWithin limit (log ++ e ∷ [])
  known' = indexed-push log e known sound

  -- an id that names an old event goes on to name it
  old-name : (i : Id) (b : Event) → named log i ≡ Some b → named (log ++ e ∷ []) i ≡ Some b
  unfolding known'
  old-name i b is =
      let there = named-is log i b is in
      rw there.1 (known'.own b (Contains-append_left log (e ∷ []) b there.0))

  -- a pair of which the store is of the past is an old one, or the new event loads below it
  stale-past : (before : List Id) → Lawful model log before → (ComesBeforePast (log ++ e ∷ []) past e → ⊥) →
      (load store : Id) (stale : IsStale (log ++ e ∷ []) load store) → IsTrue (past stale.b) → ⊥
  stale-past before lawful unseen load store stale gone =
      go (Contains-push_cases log e stale.a loads.0)
    where
      loads : Contains (log ++ e ∷ []) stale.a × (load ≡ stale.a.id)
      loads = named-is (log ++ e ∷ []) load stale.a stale.load_named

      stores : Contains (log ++ e ∷ []) stale.b × (store ≡ stale.b.id)
      stores = named-is (log ++ e ∷ []) store stale.b stale.store_named

      old : Contains log stale.a → IsStale log load store
      old c = record {
        a = stale.a;
        b = stale.b;
        load_named = rw loads.1 (known.own stale.a c);
        store_named = rw stores.1 (known.own stale.b (cut.of_log stale.b gone));
        is_load = stale.is_load;
        is_store = stale.is_store;
        word = stale.word;
        earlier = stale.earlier;
        versions = stale.versions;
      }

      below : stale.a ≡ e → ComesBeforePast (log ++ e ∷ []) past e
      below same = loads_below stale.b gone stale.is_store (subst IsLoad same stale.is_load)
          (stale.word ∙ ap (λ (x : Event). x.word) same)
          (subst (λ (x : Event). x.read < stale.b.wrote) same stale.versions)

      go : Contains log stale.a ⊎ (e ≡ stale.a) → ⊥
      go (inl c) = no_certificate model log before lawful (Stale load store) (old c)
      go (inr same) = unseen (below (sym same))

  -- a store that is earlier than an operation of the past is of the past
  earlier-past : (b p : Event) → Contains (log ++ e ∷ []) b → IsTrue (past p) → Earlier b p → IsTrue (past b)
  earlier-past b p c gone earlier = go (Contains-push_cases log e b c)
    where
      go : Contains log b ⊎ (e ≡ b) → IsTrue (past b)
      go (inl old) = cut.begins b p old gone earlier
      go (inr same) =
          let later = earlier-new model log e known sound p (cut.of_log p gone)
          (sym earlier.hart ∙ sym (ap (λ (x : Event). x.id.hart) same)) in
          let first = subst (λ (x : Event). x.id.seq < p.id.seq) (sym same) earlier.seq in
          absurd (omega (arith, later.seq, first))

  -- where no pair that is kept is stale, and the new event does not come before the past, none is
  none-stale : (before : List Id) → Lawful model log before → (ComesBeforePast (log ++ e ∷ []) past e → ⊥) →
      NoneStaleKept (log ++ e ∷ []) past → (load store : Id) → IsStale (log ++ e ∷ []) load store → ⊥
  none-stale before lawful unseen none load store stale = go (past stale.b) (past stale.a) refl refl
    where
      stores : Contains (log ++ e ∷ []) stale.b × (store ≡ stale.b.id)
      stores = named-is (log ++ e ∷ []) store stale.b stale.store_named

      go : (b a : Bool) → past stale.b ≡ b → past stale.a ≡ a → ⊥
      go true a gone _ = stale-past before lawful unseen load store stale gone
      go false true stays gone =
          not-both (past stale.b) (earlier-past stale.b stale.a stores.0 gone stale.earlier) stays
      go false false stays stays' = none load store stale stays' stays

  module _ (before : List Id) (lawful : Lawful model log before) (rest : List Id)
      (kept_order : IsOrderOfKept (log ++ e ∷ []) past rest) where
    -- the operations of the past, as they stood in an order before
    first : List Id
    first = filter (λ i. is_gone past (named log i)) before

    -- an operation of the past is an old one
    gone-fact : (i : Id) → Contains first i →
        (b : Event) × (named log i ≡ Some b) × IsMemory b × IsTrue (past b) × Contains before i
    unfolding first
    gone-fact i c =
        let there = filter-kept (λ j. is_gone past (named log j)) before i c in
        let op = lawful.is_order.nothing_else i there.0 in
        (op.event, op.is_named, op.is_memory, sym (ap (is_gone past) op.is_named) ∙ there.1, there.0)

    -- what an id of both lists names is of the past, and kept
    apart : (i : Id) → Contains first i → Contains rest i → ⊥
    apart i gone there =
        let b = gone-fact i gone in
        let a = kept_order.nothing_else i there in
        let same : a.0 ≡ b.0 = same_Some a.0 b.0 (sym a.1 ∙ old-name i b.0 b.1) in
        not-both (past a.0) (subst (λ (x : Event). IsTrue (past x)) (sym same) b.3) a.3

    -- an operation of the longer log is in one of the two
    covered : (i : Id) (a : Event) → named (log ++ e ∷ []) i ≡ Some a → IsMemory a → (b : Bool) → past a ≡ b →
        Contains (first ++ rest) i
    unfolding first
    covered i a is memory true gone =
        let there = cut.of_log a gone in
        let same = (named-is (log ++ e ∷ []) i a is).1 in
        let named_old : named log i ≡ Some a = rw same (known.own a there) in
        Contains-append_left first rest i (Contains-filter (λ j. is_gone past (named log j)) before i
        (lawful.is_order.each i (record { event = a; is_named = named_old; is_memory = memory }))
        (ap (is_gone past) named_old ∙ gone))
    covered i a is memory false stays =
        Contains-append_right first rest i (kept_order.each i a is memory stays)

    -- the two lists are an order of the longer log in two parts
    parts : IsParted (log ++ e ∷ []) past first rest
    unfolding first
    parts = record {
      is_order = record {
        each = λ i op. covered i op.event op.is_named op.is_memory (past op.event) refl;
        nothing_else = λ i c. either i (Contains-append_cases first rest i c);
        once = once-append first rest (AllPairs-filter (λ i j. i ≢ j) (λ j. is_gone past (named log j)) before
            lawful.is_order.once) kept_order.once apart;
      };
      gone = λ i a c is.
          let b = gone-fact i c in
          let same : a ≡ b.0 = same_Some a b.0 (sym is ∙ old-name i b.0 b.1) in
          subst (λ (x : Event). IsTrue (past x)) (sym same) b.3;
      kept = λ i a c is.
          let b = kept_order.nothing_else i c in
          let same : a ≡ b.0 = same_Some a b.0 (sym is ∙ b.1) in
          subst (λ (x : Event). IsFalse (past x)) (sym same) b.3;
    }
      where
        either : (i : Id) → Contains first i ⊎ Contains rest i → IsOperation (log ++ e ∷ []) i
        either i (inl c) =
            let b = gone-fact i c in
            record { event = b.0; is_named = old-name i b.0 b.1; is_memory = b.2 }
        either i (inr c) =
            let a = kept_order.nothing_else i c in
            record { event = a.0; is_named = a.1; is_memory = a.2 }

    -- an old operation is not the new event
    not-new : (i : Id) → Contains first i → i ≡ e.id → ⊥
    not-new i c same =
        let b = gone-fact i c in
        let there = named-is log i b.0 b.1 in
        new-id model log e known sound b.0 there.0 (sym there.1 ∙ same)

    -- the operations of the past go forward as before
    first-forward : GoesForward model (log ++ e ∷ []) first
    unfolding first
    first-forward i j reason ci cj edge =
        go (edge-push model log e known sound i j reason edge)
      where
        go : IsEdge model log i reason j ⊎ ((i ≡ e.id) ⊎ (j ≡ e.id)) → place first i < place first j
        go (inl old) =
            let test = λ (k : Id). is_gone past (named log k) in
            place-filter test before i j (filter-kept test before i ci).1 (filter-kept test before j cj).1
            (edge-forward model log before lawful i j reason old)
        go (inr (inl same)) = absurd (not-new i ci same)
        go (inr (inr same)) = absurd (not-new j cj same)

    -- so an order of what is kept, in which edges go forward, is the end of a lawful one
    pub enough : NoneStaleKept (log ++ e ∷ []) past → (ComesBeforePast (log ++ e ∷ []) past e → ⊥) →
        GoesForward model (log ++ e ∷ []) rest →
        (order : List Id) × Lawful model (log ++ e ∷ []) order
    unfolding known'
    enough none unseen rest_forward =
        let none_stale = none-stale before lawful unseen none in
        let longer = cut-stays model log e known sound active past cut (λ p reason gone edge.
        unseen (edge-seen model log e known sound active past cut (p, gone, (reason, edge)))) in
        let forward = joined-forward model (log ++ e ∷ []) active past first rest known' longer parts first-forward
        rest_forward in (
          first ++ rest,
          lawful_from_edges model (log ++ e ∷ []) (first ++ rest) known' none_stale forward parts.is_order,
        )
