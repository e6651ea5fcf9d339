use Rattle.rv_hart.proofs.Common.{◌↔◌, IsTrue, sym, subst, rules, IsAcquire, IsRcsc, Event, MemoryModel}
use Rattle.rv_hart.proofs.HartFacts.{fits_of, Fits}
use Rattle.rv_hart.proofs.GrownSets.{row-insert, fences-absorbed, controls-absorbed, addresses-absorbed}
use Rattle.rv_hart.proofs.sets.Sets.absorb.Goals as goal

pub returns : goal.returns
returns c = λ h ok follows same carried sets.
    let e : Event = c.args.event.now in
    let f : Fits h e = fits_of h e ok follows in
    let old = c.args.self.now in
    let acquire : IsTrue c.is_acquire.result ↔ IsAcquire h.model e =
    subst (λ (m : MemoryModel). IsTrue c.is_acquire.result ↔ IsAcquire m e) (sym same) c.is_acquire.ensures in
    let rcsc : IsTrue c.is_rcsc.result ↔ IsRcsc h.model e =
    subst (λ (m : MemoryModel). IsTrue c.is_rcsc.result ↔ IsRcsc m e) (sym same) c.is_rcsc.ensures in
    record {
      loads = search (row-insert, rules);
      stores = search (row-insert, rules);
      acquires = search (row-insert, rules);
      rcsc = search (row-insert, rules);
      fenced_for_load = search (fences-absorbed, rules);
      fenced_for_store = search (fences-absorbed, rules);
      controlled = search (controls-absorbed, rules);
      addressed = search (addresses-absorbed, rules);
      reserved = c.reserved_after-self.ensures h ok follows sets.reserved;
    }
