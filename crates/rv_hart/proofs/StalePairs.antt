-- Stale pairs of a new event with its hart's stores.
use Rattle.rv_hart.proofs.Common.{◌≡◌, ◌<◌, ◌≤◌, ℕ, Contains, Some, None, length, sym, ap, ◌∙◌, arith, subst}
use Rattle.rv_hart.proofs.Common.{same_Some, Contains-push, named-is, IsLoad, Earlier, IsStale, Id, Event, Hart}
use Rattle.rv_hart.proofs.Common.{followed, hart_with, IsHighestStore}
use Rattle.rv_hart.proofs.HartFacts.{Known, Fits, known_with, follows_all, earlier_old, old_new}

module _ {h : Hart} {e : Event} (f : Fits h e) where
  known' : Known (hart_with h e)
  known' = known_with f

  -- what a stale pair says of the new event
  load_is : (s : Id) (p : IsStale (followed h e) e.id s) → p.a ≡ e
  load_is s p = same_Some p.a e (sym p.load_named ∙ known'.indexed.own e (Contains-push h.events e))

  -- only a load is stale
  pub stale-load : (s : Id) → IsStale (followed h e) e.id s → IsLoad e
  stale-load s p = subst IsLoad (load_is s p) p.is_load

  -- the store of a stale pair is an old one
  store_old : (s : Id) (p : IsStale (followed h e) e.id s) → Contains h.events p.b
  store_old s p = earlier_old f p.b (named-is (followed h e) s p.b p.store_named).0
      (subst (λ (x : Event). Earlier p.b x) (load_is s p) p.earlier)

  -- the hart has no store of the word
  pub stale-none : IsHighestStore h.events e.word (length h.events) None → (s : Id) → IsStale (followed h e) e.id s → ⊥
  stale-none none s p = none p.b (store_old s p) p.is_store (p.word ∙ ap (λ (x : Event). x.word) (load_is s p))
      (f.known.below p.b (store_old s p))

  -- its highest version is no higher than what was returned
  pub stale-low : (n : ℕ) (x : IsHighestStore h.events e.word (length h.events) (Some n)) → x.1.a.wrote ≤ e.read →
      (s : Id) → IsStale (followed h e) e.id s → ⊥
  stale-low n x low s p =
      let most : p.b.wrote ≤ x.1.a.wrote =
      x.1.holds.2 p.b (store_old s p) p.is_store (p.word ∙ ap (λ (y : Event). y.word) (load_is s p))
      (f.known.below p.b (store_old s p)) in
      let read : p.a.read ≡ e.read = ap (λ (y : Event). y.read) (load_is s p) in
      let versions = p.versions in
      omega arith

  -- it is higher
  pub stale-high : IsLoad e → (n : ℕ) (x : IsHighestStore h.events e.word (length h.events) (Some n)) →
      e.read < x.1.a.wrote → IsStale (followed h e) e.id x.1.a.id
  stale-high load n x high = record {
    a = e;
    b = x.1.a;
    load_named = known'.indexed.own e (Contains-push h.events e);
    store_named = known'.indexed.own x.1.a (old_new h e x.1.a x.1.of_list);
    is_load = load;
    is_store = x.1.holds.0;
    word = x.1.holds.1;
    earlier = follows_all f x.1.a x.1.of_list;
    versions = high;
  }
