-- Each reason by which a new event could come before the past is seen by versions.
use Rattle.std.proofs.Common.{◌++◌, ◌∷◌, ◌≡◌, ◌⊎◌, ◌∙◌, [], Bool, Contains, IsTrue, List, arith}
use Rattle.std.proofs.Common.{inl, inr, refl, subst, sym, ℕ}
use Rattle.std.proofs.lemmas.Grind.{common_steps}
use Rattle.std.proofs.lemmas.List.Elements.{Contains-append_left, Contains-append_right}
use Rattle.std.proofs.lemmas.List.Elements.{Contains-push_cases}
use Rattle.std.proofs.lemmas.Option.{same_Some}
use Rattle.rv_event.proofs.Indexed.{IndexedWithin, SoundWithin, indexed-push}
use Rattle.rv_event.proofs.Names.{Contains-here, writer-is}
use Rattle.rv_event.specs.Edges.{HasReason}
use Rattle.rv_event.specs.Log.{Earlier}
use Rattle.rv_event.specs.Operations.{IsLoad, IsMemory, IsStore}
use Rattle.rv_event.specs.Relations.{Paired}
use Rattle.rv_event.specs.declared.event.Event.{Event}
use Rattle.rv_event.specs.declared.memory_model.MemoryModel.{MemoryModel}
use Rattle.rv_event.specs.declared.reason.Reason.{Reason}
use Rattle.rv_event.specs.declared.reason.Reason.TheVariants.{AtomicIn, AtomicOut, Coherence}
use Rattle.rv_event.specs.declared.reason.Reason.TheVariants.{FromRead, Preserved}
use Rattle.rv_event.specs.declared.reason.Reason.TheVariants.{ReadsFrom}
use Rattle.rv_settle.proofs.Bars.{earlier-new}
use Rattle.rv_settle.proofs.Cuts.{new-id}
use Rattle.rv_settle.specs.Cuts.{IsCut}
use Rattle.rv_settle.specs.Past.{ComesBeforePast, loads_below, stores_below, stores_too_late}
use Rattle.rv_settle.specs.Past.{stores_what_was_returned}
use Rattle.rv_settle.specs.Settled.{AnyEdge}

-- loads and stores are memory operations, as are LRs and SCs
load-memory : (e : Event) → IsLoad e → IsMemory e
load-memory e load = grind (arith, common_steps)

store-memory : (e : Event) → IsStore e → IsMemory e
store-memory e store = grind (arith, common_steps)

lr-load : (log : List Event) (lr sc : Event) → Paired log lr sc → IsLoad lr
lr-load log lr sc pair = rw pair.is_lr

sc-store : (log : List Event) (lr sc : Event) → Paired log lr sc → IsStore sc
sc-store log lr sc pair = rw pair.is_sc

module _ {limit : ℕ} (model : MemoryModel) (log : List Event) (e : Event) (known : IndexedWithin limit log)
    (sound : SoundWithin limit log e)
    (active : List ℕ) (past : Event → Bool) (cut : IsCut model log active past) where
  -- the new event is not earlier than an old one
  not-earlier : (p : Event) → Contains log p → Earlier e p → ⊥
  not-earlier p c earlier =
      let later = earlier-new model log e known sound p c (sym earlier.hart) in
      omega (arith, earlier.seq, later.seq)

  -- what is earlier than an old event is old
  old : (a p : Event) → Contains (log ++ e ∷ []) a → Contains log p → Earlier a p → Contains log a
  old a p ca cp earlier = go (Contains-push_cases log e a ca)
    where
      go : Contains log a ⊎ (e ≡ a) → Contains log a
      go (inl c) = c
      go (inr is) = absurd (not-earlier p cp (subst (λ (b : Event). Earlier b p) (sym is) earlier))

  -- by versions, for each reason
  seen : (p : Event) → IsTrue (past p) → (reason : Reason) → HasReason model (log ++ e ∷ []) reason e p →
      ComesBeforePast (log ++ e ∷ []) past e
  seen p gone (Preserved k) rule = absurd (not-earlier p (cut.of_log p gone) rule.earlier)
  seen p gone Coherence h = stores_below p gone h.second h.first h.word h.versions
  seen p gone ReadsFrom h =
      let is = writer-is (log ++ e ∷ []) p.word p.read e h.is_writer in
      stores_what_was_returned p gone h.load is.store is.word is.version
  seen p gone FromRead h = loads_below p gone h.store h.load h.word h.versions
  seen p gone AtomicIn h =
      let there = cut.of_log p gone in
      let of_old = old h.lr p h.of_log there h.paired.earlier in
      let is = writer-is (log ++ e ∷ []) h.lr.word h.lr.read e h.is_writer in
      stores_what_was_returned h.lr (cut.begins h.lr p of_old gone h.paired.earlier)
      (lr-load (log ++ e ∷ []) h.lr p h.paired) is.store is.word is.version
  seen p gone AtomicOut h =
      stores_too_late h.lr p h.of_log h.paired gone h.store h.word h.other_hart h.versions

  known' : IndexedWithin limit (log ++ e ∷ [])
  known' = indexed-push log e known sound

  there : Contains (log ++ e ∷ []) e
  there = Contains-append_right log (e ∷ []) e (Contains-here e [] e refl)

  -- an edge into the past is seen by versions
  pub edge-seen : (p : Event) × IsTrue (past p) × AnyEdge model (log ++ e ∷ []) e.id p.id →
      ComesBeforePast (log ++ e ∷ []) past e
  unfolding known' there
  edge-seen (p, gone, (reason, edge)) =
      let from : edge.a ≡ e = same_Some edge.a e (sym edge.from_named ∙ known'.own e there) in
      let to : edge.b ≡ p = same_Some edge.b p
      (sym edge.to_named ∙ known'.own p (Contains-append_left log (e ∷ []) p (cut.of_log p gone))) in
      seen p gone reason (subst (λ (b : Event). HasReason model (log ++ e ∷ []) reason e b) to
      (subst (λ (a : Event). HasReason model (log ++ e ∷ []) reason a edge.b) from edge.why))

  -- an edge from the new event to an old one
  edge-to : (p : Event) → IsTrue (past p) → IsMemory e → IsMemory p → (reason : Reason) →
      HasReason model (log ++ e ∷ []) reason e p →
      (q : Event) × IsTrue (past q) × AnyEdge model (log ++ e ∷ []) e.id q.id
  unfolding known' there
  edge-to p gone from to reason why = (
    p,
    gone,
    (
      reason,
      record {
        a = e;
        b = p;
        from_named = known'.own e there;
        to_named = known'.own p (Contains-append_left log (e ∷ []) p (cut.of_log p gone));
        from_memory = from;
        to_memory = to;
        why = why;
      },
    ),
  )

  -- and what is seen by versions is an edge
  pub seen-edge : ComesBeforePast (log ++ e ∷ []) past e →
      (p : Event) × IsTrue (past p) × AnyEdge model (log ++ e ∷ []) e.id p.id
  unfolding known' there
  seen-edge (loads_below p gone store load word below) =
      edge-to p gone (load-memory e load) (store-memory p store) FromRead (record {
        load = load;
        store = store;
        other = λ same. new-id model log e known sound p (cut.of_log p gone) (sym same);
        word = word;
        versions = below;
      })
  seen-edge (stores_below p gone store own word below) =
      edge-to p gone (store-memory e own) (store-memory p store) Coherence (record {
        first = own;
        second = store;
        word = word;
        versions = below;
      })
  seen-edge (stores_what_was_returned p gone load own word same) =
      edge-to p gone (store-memory e own) (load-memory p load) ReadsFrom (record {
        load = load;
        is_writer = rw (word, same) (known'.written e there own);
        not_earlier = not-earlier p (cut.of_log p gone);
      })
  seen-edge (stores_too_late lr p of_log pair gone store word other above) =
      edge-to p gone (store-memory e (sc-store (log ++ e ∷ []) lr e pair)) (store-memory p store) AtomicOut (record {
        lr = lr;
        of_log = of_log;
        paired = pair;
        store = store;
        word = word;
        other_hart = other;
        versions = above;
      })
