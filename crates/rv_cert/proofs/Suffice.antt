-- An order in which every edge goes forward is lawful, where no pair is stale.
use Rattle.rv_event.specs.declared.memory_model.MemoryModel.{MemoryModel}
use Rattle.std.proofs.Common.{ℕ, ◌≡◌, ◌<◌, ◌≤◌, List, Contains, Some, ◌⊎◌, inl, inr, sym, ap, arith}
use Rattle.std.proofs.lemmas.Bool.{cases_lt, or_left, or_right}
use Rattle.rv_event.specs.Log.{writer, Earlier}
use Rattle.rv_event.specs.Operations.{is_load, is_store, IsLoad, IsStore, IsMemory}
use Rattle.rv_event.specs.Relations.{Paired}
use Rattle.rv_event.specs.Orders.{place, Before, Lawful, IsOrderOf, Candidate, IsAtomic}
use Rattle.rv_event.specs.Edges.{HasReason, IsStale}
use Rattle.rv_event.proofs.Names.{IsWriterOf, writer-is, earlier_cases}
use Rattle.rv_event.proofs.Indexed.{IndexedWithin}
use Rattle.rv_event.specs.declared.event.Id.{Id}
use Rattle.rv_event.specs.declared.event.Event.{Event}
use Rattle.rv_event.specs.declared.reason.Reason.{Reason}
use Rattle.rv_event.specs.declared.reason.Reason.TheVariants.{Preserved, Coherence, ReadsFrom, FromRead, AtomicIn}
use Rattle.rv_event.specs.declared.reason.Reason.TheVariants.{AtomicOut}
use Rattle.rv_cert.specs.Laws.{EdgesGoForward}

load_is_memory : (e : Event) → IsLoad e → IsMemory e
load_is_memory e l = or_left (is_load e.op) (is_store e.op) l

store_is_memory : (e : Event) → IsStore e → IsMemory e
store_is_memory e s = or_right (is_load e.op) (is_store e.op) s

module _ {limit : ℕ} (model : MemoryModel) (log : List Event) (order : List Id) (known : IndexedWithin limit log)
    (none_stale : (load store : Id) → IsStale log load store → ⊥) (forward : EdgesGoForward model log order) where
  goes_forward : (a b : Event) → Contains log a → Contains log b → IsMemory a → IsMemory b → (reason : Reason) →
      HasReason model log reason a b → Before order a b
  goes_forward a b ca cb ma mb reason why =
      forward a.id b.id reason (record {
        a = a;
        b = b;
        from_named = known.own a ca;
        to_named = known.own b cb;
        from_memory = ma;
        to_memory = mb;
        why = why;
      })

  none_newer : (load store : Event) → Contains log load → IsLoad load → Candidate log order load store →
      store.wrote ≤ load.read
  none_newer load store cl il c = go (cases_lt load.read store.wrote)
    where
      newer : load.read < store.wrote → Before order store load ⊎ Earlier store load → store.wrote ≤ load.read
      newer low (inl before) =
          let back : Before order load store = goes_forward load store cl c.of_log (load_is_memory load il)
          (store_is_memory store c.is_store) FromRead
          (record {
            load = il;
            store = c.is_store;
            other = λ same. let at : place order load.id ≡ place order store.id = ap (place order) same in
                omega arith;
            word = c.word;
            versions = low;
          }) in
          absurd (omega arith)
      newer low (inr earlier) =
          absurd (none_stale load.id store.id
          (record {
            a = load;
            b = store;
            load_named = known.own load cl;
            store_named = known.own store c.of_log;
            is_load = il;
            is_store = c.is_store;
            word = c.word;
            earlier = earlier;
            versions = low;
          }))

      go : (load.read < store.wrote) ⊎ (store.wrote ≤ load.read) → store.wrote ≤ load.read
      go (inl low) = newer low c.visible
      go (inr high) = high

  from_writer : (load store : Event) → Contains log load → IsLoad load → writer log load.word load.read ≡ Some store →
      Candidate log order load store
  from_writer load store cl il e = record {
    of_log = is.of_log;
    is_store = is.store;
    word = sym is.word;
    visible = go (earlier_cases store load);
  }
    where
      is : IsWriterOf log load.word load.read store
      is = writer-is log load.word load.read store e

      go : Earlier store load ⊎ (Earlier store load → ⊥) → Before order store load ⊎ Earlier store load
      go (inl earlier) = inr earlier
      go (inr not) = inl (goes_forward store load is.of_log cl (store_is_memory store is.store)
          (load_is_memory load il) ReadsFrom (record { load = il; is_writer = e; not_earlier = not }))

  is_atomic : (lr sc : Event) → Contains log lr → Contains log sc → Paired log lr sc → IsAtomic log order lr sc
  is_atomic lr sc cl cs p =
      let sc_memory : IsMemory sc = rw p.is_sc in
      record {
        after_writer = λ store e. let is = writer-is log lr.word lr.read store e in goes_forward store sc is.of_log cs
            (store_is_memory store is.store) sc_memory AtomicIn
            (record { lr = lr; of_log = cl; paired = p; is_writer = e });
        before_others = λ store c s word other versions. goes_forward sc store cs c sc_memory
            (store_is_memory store s) AtomicOut
            (record {
              lr = lr;
              of_log = cl;
              paired = p;
              store = s;
              word = word;
              other_hart = other;
              versions = versions;
            });
      }

  -- an order in which every edge goes forward is lawful
  pub lawful_from_edges : IsOrderOf log order → Lawful model log order
  lawful_from_edges is_order = record {
    is_order = is_order;
    program_order = λ k a b h. goes_forward a b h.from h.to h.from_memory h.to_memory (Preserved k) h;
    write_order = λ a b ca cb sa sb word versions. goes_forward a b ca cb (store_is_memory a sa)
        (store_is_memory b sb) Coherence (record { first = sa; second = sb; word = word; versions = versions });
    load_values = λ load cl il. record {
      none_newer = λ store c. none_newer load store cl il c;
      from_writer = λ store e. from_writer load store cl il e;
    };
    atomicity = is_atomic;
  }
