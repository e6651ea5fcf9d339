-- An order of what is kept is an order of the window, number by number.
use Rattle.std.proofs.Common.{ℕ, ◌+◌, ◌∷◌, ◌≡◌, ◌≢◌, ◌∙◌, ◌-◌, [], AllPairs, Bool}
use Rattle.std.proofs.Common.{Contains, IsFalse, List, Some, ap, arith, cond, false, map, refl, subst}
use Rattle.std.proofs.Common.{suc, suc-le-suc, sym, true, zero, zero-lt-suc}
use Rattle.std.proofs.lemmas.Bool.{false≢true}
use Rattle.std.proofs.lemmas.List.Kept.{AllPairs-cons}
use Rattle.std.proofs.lemmas.Option.{same_Some}
use Rattle.rv_cert.proofs.Forward.{edge-forward, no_certificate}
use Rattle.rv_cert.specs.Laws.{EdgesGoForward, NoneStale}
use Rattle.rv_cert.specs.declared.certificate.Certificate.TheVariants.{Stale}
use Rattle.rv_event.proofs.Growing.{All-from_contains}
use Rattle.rv_event.proofs.Indexed.{IndexedWithin}
use Rattle.rv_event.proofs.Names.{Contains-here, Contains-map, Contains-mapped, Contains-there, named-is, same_id-refl}
use Rattle.rv_event.proofs.Names.{same_id-true}
use Rattle.rv_event.specs.Edges.{IsEdge, IsStale}
use Rattle.rv_event.specs.Log.{named, same_id}
use Rattle.rv_event.specs.Operations.{IsMemory}
use Rattle.rv_event.specs.Orders.{IsOperation, IsOrderOf, Lawful, place}
use Rattle.rv_event.specs.declared.event.Event.{Event}
use Rattle.rv_event.specs.declared.event.Id.{Id}
use Rattle.rv_event.specs.declared.event.Op.TheVariants.{Carrier}
use Rattle.rv_event.specs.declared.memory_model.MemoryModel.{MemoryModel}
use Rattle.rv_settle.proofs.Windows.{edge-back, edge-in, stale-back, stale-in}
use Rattle.rv_settle.specs.Cuts.{GoesForward, IsOrderOfKept, NoneStaleKept}
use Rattle.rv_settle.specs.Windows.{IsKept, KeepsPairs, renumbered}

-- an element keeps its place where a list is renamed one to one
place-map : (g : Id → Id) (xs : List Id) (i : Id) → ((j : Id) → Contains xs j → g i ≡ g j → i ≡ j) →
    place (map g xs) (g i) ≡ place xs i
place-map g [] i apart = refl
place-map g (j ∷ xs) i apart = go (same_id i j) (same_id (g i) (g j)) refl refl
    (place-map g xs i (λ k c same. apart k (Contains-there j xs k c) same))
  where
    go : (b d : Bool) → same_id i j ≡ b → same_id (g i) (g j) ≡ d → place (map g xs) (g i) ≡ place xs i →
        cond d 0 (suc (place (map g xs) (g i))) ≡ cond b 0 (suc (place xs i))
    go true true e f again = refl
    go true false e f again =
        absurd (false≢true (sym f ∙ ap (λ (k : Id). same_id (g i) (g k)) (sym (same_id-true i j e)) ∙
        same_id-refl (g i)))
    go false true e f again =
        let same : i ≡ j = apart j (Contains-here j xs j refl) (same_id-true (g i) (g j) f) in
        absurd (false≢true (sym e ∙ ap (λ (k : Id). same_id i k) (sym same) ∙ same_id-refl i))
    go false false e f again = ap suc again

-- and no element comes twice
once-map : (g : Id → Id) (xs : List Id) → ((i j : Id) → Contains xs i → Contains xs j → g i ≡ g j → i ≡ j) →
    AllPairs (λ i j. i ≢ j) xs → AllPairs (λ i j. i ≢ j) (map g xs)
once-map g [] apart once = once
once-map g (x ∷ xs) apart once =
    AllPairs-cons (λ i j. i ≢ j) (g x) (map g xs) (All-from_contains (λ y. g x ≢ y) (map g xs) differs)
    (once-map g xs (λ i j ci cj same. apart i j (Contains-there x xs i ci) (Contains-there x xs j cj) same)
    (λ k l d less low. once (suc k) (suc l) d (suc-le-suc less) (suc-le-suc low)))
  where
    new : (z : Id) → Contains xs z → x ≢ z
    new z (k, low, is) same = once zero (suc k) z (zero-lt-suc k) (suc-le-suc low) (same ∙ sym is)

    differs : (y : Id) → Contains (map g xs) y → g x ≢ y
    differs y c same =
        let from = Contains-map g xs y c in
        new from.0 from.1 (apart x from.0 (Contains-here x xs x refl) (Contains-there x xs from.0 from.1)
        (same ∙ sym from.2))

-- an id of the log in the window, and one of the window in the log
abbrev pub to_window : (ℕ → ℕ) → Id → Id
to_window first i = record { hart = i.hart; seq = i.seq - first i.hart }

abbrev pub of_window : (ℕ → ℕ) → Id → Id
of_window first i = record { hart = i.hart; seq = i.seq + first i.hart }

-- the number of an event that is kept comes back
pub comes-back : (first : ℕ → ℕ) (a : Event) → IsKept first a → of_window first (to_window first a.id) ≡ a.id
comes-back first a kept =
    let seq : (a.id.seq - first a.id.hart) + first a.id.hart ≡ a.id.seq = omega (arith, kept) in grind arith

-- ids of the window go back one to one
back-apart : (first : ℕ → ℕ) (i j : Id) → of_window first i ≡ of_window first j → i ≡ j
back-apart first i j same =
    let hart : i.hart ≡ j.hart = ap (λ (k : Id). k.hart) same in
    let seq : i.seq + first i.hart ≡ j.seq + first j.hart = ap (λ (k : Id). k.seq) same in
    let base = ap first hart in
    let number : i.seq ≡ j.seq = omega (arith, seq, base) in
    grind arith

module _ {limit other : ℕ} (model : MemoryModel) (log : List Event) (w : List Event) (first : ℕ → ℕ)
    (known : IndexedWithin limit log) (known' : IndexedWithin other w)
    (into : (a : Event) → Contains log a → IsKept first a → Contains w (renumbered first a))
    (onto : (x : Event) → Contains w x → (a : Event) × Contains log a × IsKept first a × (renumbered first a ≡ x))
    (plain : (a : Event) → Contains log a → a.op ≢ Carrier) (pairs : KeepsPairs first log) (past : Event → Bool)
    (stays : (a : Event) → Contains log a → IsFalse (past a) → IsKept first a)
    (fails : (a : Event) → Contains log a → IsKept first a → IsFalse (past a)) where
  -- ids of events that are kept go to the window one to one
  to-apart : (a b : Event) → IsKept first a → IsKept first b → to_window first a.id ≡ to_window first b.id →
      a.id ≡ b.id
  to-apart a b kept kept' same =
      sym (comes-back first a kept) ∙ ap (of_window first) same ∙ comes-back first b kept'

  -- what the window has of an id
  record Origin (i : Id) : Type 0 where
    a : Event
    of_log : Contains log a
    kept : IsKept first a
    is : i ≡ to_window first a.id
    memory : IsMemory a

  -- an operation of the window is one of the log that is kept
  origin : (i : Id) → IsOperation w i → Origin i
  origin i op =
      let there = named-is w i op.event op.is_named in
      let from = onto op.event there.0 in
      record {
        a = from.0;
        of_log = from.1;
        kept = from.2;
        is = there.1 ∙ sym (ap (λ (x : Event). x.id) from.3);
        memory = subst (λ (x : Event). IsMemory x) (sym from.3) op.is_memory;
      }

  module _ (rest : List Id) (whole : IsOrderOfKept log past rest) where
    -- an operation that is kept stands in the list
    stands : (i : Id) → (o : Origin i) → Contains rest o.a.id
    stands i o = whole.each o.a.id o.a (known.own o.a o.of_log) o.memory (fails o.a o.of_log o.kept)

    -- what stands in the list is kept
    fact : (i : Id) → Contains rest i → (a : Event) × Contains log a × IsKept first a × (i ≡ a.id) × IsMemory a
    fact i c =
        let there = whole.nothing_else i c in
        let named-there = named-is log i there.0 there.1 in
        (there.0, named-there.0, stays there.0 named-there.0 there.3, named-there.1, there.2)

    apart-in : (i j : Id) → Contains rest i → Contains rest j → to_window first i ≡ to_window first j → i ≡ j
    apart-in i j ci cj same =
        let a = fact i ci in
        let b = fact j cj in
        let same' : to_window first a.0.id ≡ to_window first b.0.id =
        ap (to_window first) (sym a.3) ∙ same ∙ ap (to_window first) b.3 in
        a.3 ∙ to-apart a.0 b.0 a.2 b.2 same' ∙ sym b.3

    -- an order of what is kept, renamed, is one of the window
    pub order-in : IsOrderOf w (map (to_window first) rest)
    order-in = record {
      each = λ i op.
          let o = origin i op in
          subst (Contains (map (to_window first) rest)) (sym o.is)
          (Contains-mapped (to_window first) rest o.a.id (stands i o));
      nothing_else = λ i c.
          let from = Contains-map (to_window first) rest i c in
          let a = fact from.0 from.1 in
          let is : i ≡ to_window first a.0.id = sym from.2 ∙ ap (to_window first) a.3 in
          record {
            event = renumbered first a.0;
            is_named = subst (λ (k : Id). named w k ≡ Some (renumbered first a.0)) (sym is)
                (known'.own (renumbered first a.0) (into a.0 a.1 a.2));
            is_memory = a.4;
          };
      once = once-map (to_window first) rest apart-in whole.once;
    }

    -- in which edges go forward as before
    pub forward-in : GoesForward model log rest → EdgesGoForward model w (map (to_window first) rest)
    forward-in forward i j reason edge =
        let from = origin i (record { event = edge.a; is_named = edge.from_named; is_memory = edge.from_memory }) in
        let to = origin j (record { event = edge.b; is_named = edge.to_named; is_memory = edge.to_memory }) in
        let same : IsEdge model w (renumbered first from.a).id reason (renumbered first to.a).id =
        subst (λ (k : Id). IsEdge model w k reason (renumbered first to.a).id) from.is
        (subst (λ (k : Id). IsEdge model w i reason k) to.is edge) in
        let ca = stands i from in
        let cb = stands j to in
        let old = edge-back log w first known known' into onto model plain pairs from.a to.a from.of_log to.of_log
        from.kept to.kept reason same in
        let less = forward from.a.id to.a.id reason ca cb old in
        let at-a : place (map (to_window first) rest) i ≡ place rest from.a.id =
        ap (place (map (to_window first) rest)) from.is ∙
        place-map (to_window first) rest from.a.id (λ k c e. apart-in from.a.id k ca c e) in
        let at-b : place (map (to_window first) rest) j ≡ place rest to.a.id =
        ap (place (map (to_window first) rest)) to.is ∙
        place-map (to_window first) rest to.a.id (λ k c e. apart-in to.a.id k cb c e) in
        omega (arith, less, at-a, at-b)

  -- and no pair of the window is stale, where none is that is kept
  pub none-in : NoneStaleKept log past → NoneStale w
  none-in none load store stale =
      let loads = named-is w load stale.a stale.load_named in
      let stores = named-is w store stale.b stale.store_named in
      let a = onto stale.a loads.0 in
      let b = onto stale.b stores.0 in
      let is-a : load ≡ (renumbered first a.0).id = loads.1 ∙ sym (ap (λ (x : Event). x.id) a.3) in
      let is-b : store ≡ (renumbered first b.0).id = stores.1 ∙ sym (ap (λ (x : Event). x.id) b.3) in
      let there : IsStale w (renumbered first a.0).id (renumbered first b.0).id =
      subst (λ (k : Id). IsStale w k (renumbered first b.0).id) is-a
      (subst (λ (k : Id). IsStale w load k) is-b stale) in
      let old = stale-back log w first known known' into onto a.0 b.0 a.1 b.1 a.2 b.2 there in
      let same-a : old.a ≡ a.0 = same_Some old.a a.0 (sym old.load_named ∙ known.own a.0 a.1) in
      let same-b : old.b ≡ b.0 = same_Some old.b b.0 (sym old.store_named ∙ known.own b.0 b.1) in
      none a.0.id b.0.id old (subst (λ (x : Event). IsFalse (past x)) (sym same-a) (fails a.0 a.1 a.2))
      (subst (λ (x : Event). IsFalse (past x)) (sym same-b) (fails b.0 b.1 b.2))

  module _ (order : List Id) (lawful : Lawful model w order) where
    abbrev rest' : List Id
    rest' = map (of_window first) order

    -- what stands in the order, renamed
    fact-back : (i : Id) → Contains rest' i → (o : Id) × Contains order o × (of_window first o ≡ i) × Origin o
    fact-back i c =
        let from = Contains-map (of_window first) order i c in
        (from.0, from.1, from.2, origin from.0 (lawful.is_order.nothing_else from.0 from.1))

    -- it is the event's own id
    own-id : (i : Id) (o : Origin i) → of_window first i ≡ o.a.id
    own-id i o = ap (of_window first) o.is ∙ comes-back first o.a o.kept

    -- a lawful order of the window, renamed, is an order of what is kept
    pub order-back : IsOrderOfKept log past rest'
    order-back = record {
      each = λ i a is memory not_past.
          let there = named-is log i a is in
          let kept = stays a there.0 not_past in
          let stands : Contains order (to_window first a.id) = lawful.is_order.each (to_window first a.id) (record {
            event = renumbered first a;
            is_named = known'.own (renumbered first a) (into a there.0 kept);
            is_memory = memory;
          }) in
          subst (Contains rest') (comes-back first a kept ∙ sym there.1)
          (Contains-mapped (of_window first) order (to_window first a.id) stands);
      nothing_else = λ i c.
          let f = fact-back i c in
          let is : i ≡ f.3.a.id = sym f.2 ∙ own-id f.0 f.3 in (
            f.3.a,
            subst (λ (k : Id). named log k ≡ Some f.3.a) (sym is) (known.own f.3.a f.3.of_log),
            f.3.memory,
            fails f.3.a f.3.of_log f.3.kept,
          );
      once = once-map (of_window first) order (λ i j ci cj same. back-apart first i j same) lawful.is_order.once;
    }

    -- in which edges go forward
    pub forward-back : GoesForward model log rest'
    forward-back i j reason ci cj edge =
        let from = fact-back i ci in
        let to = fact-back j cj in
        let is-a : i ≡ from.3.a.id = sym from.2 ∙ own-id from.0 from.3 in
        let is-b : j ≡ to.3.a.id = sym to.2 ∙ own-id to.0 to.3 in
        let old : IsEdge model log from.3.a.id reason to.3.a.id =
        subst (λ (k : Id). IsEdge model log k reason to.3.a.id) is-a
        (subst (λ (k : Id). IsEdge model log i reason k) is-b edge) in
        let new = edge-in log w first known known' into onto model plain pairs from.3.a to.3.a from.3.of_log to.3.of_log
        from.3.kept to.3.kept reason old in
        let less = edge-forward model w order lawful (to_window first from.3.a.id) (to_window first to.3.a.id) reason
        new in
        let at-a : place rest' i ≡ place order (to_window first from.3.a.id) =
        ap (place rest') (sym from.2) ∙
        place-map (of_window first) order from.0 (λ k c e. back-apart first from.0 k e) ∙ ap (place order) from.3.is in
        let at-b : place rest' j ≡ place order (to_window first to.3.a.id) =
        ap (place rest') (sym to.2) ∙
        place-map (of_window first) order to.0 (λ k c e. back-apart first to.0 k e) ∙ ap (place order) to.3.is in
        omega (arith, less, at-a, at-b)

    -- and no pair that is kept is stale
    pub none-back : NoneStaleKept log past
    none-back load store stale stays-a stays-b =
        let loads = named-is log load stale.a stale.load_named in
        let stores = named-is log store stale.b stale.store_named in
        let there : IsStale log stale.a.id stale.b.id =
        subst (λ (k : Id). IsStale log k stale.b.id) loads.1 (subst (λ (k : Id). IsStale log load k) stores.1 stale) in
        no_certificate model w order lawful
        (Stale (renumbered first stale.a).id (renumbered first stale.b).id)
        (stale-in log w first known known' into onto stale.a stale.b loads.0 stores.0
        (stays stale.a loads.0 stays-a) (stays stale.b stores.0 stays-b) there)
