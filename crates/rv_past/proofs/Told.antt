-- What the versions tell is just how an event comes before what was forgotten.
use Rattle.std.proofs.Common.{ℕ, ◌≡◌, ◌≢◌, ◌∙◌, ◌<◌, ◌≤◌, Contains, IsSome, List, None, Option, Some, ap}
use Rattle.std.proofs.Common.{arith, inl, inr, refl, subst, sym}
use Rattle.std.proofs.lemmas.Bool.{cases_eq, cases_lt, false≢true, ne_eqb}
use Rattle.std.proofs.lemmas.Grind.{common_steps}
use Rattle.rv_event.specs.Operations.{IsLoad, IsStore}
use Rattle.rv_event.specs.declared.event.Event.{Event}
use Rattle.rv_event.specs.declared.event.Id.{Id}
use Rattle.rv_event.specs.declared.reason.Reason.TheVariants.{AtomicOut, Coherence, FromRead, ReadsFrom}
use Rattle.rv_past.specs.Before.{ComesBefore, IsEdgeTo, IsFree, loads_below, stores_below, stores_too_late}
use Rattle.rv_past.specs.Before.{stores_what_was_returned}
use Rattle.rv_past.specs.Gone.{AreGoneBy, IsAwaited, IsNewest, by_others, version_of}
use Rattle.rv_past.specs.declared.past.Newest.{Newest}

module _ (gone : List Event) (newest : ℕ → Option Newest) (awaited : ℕ × ℕ → Option Id)
    (are : AreGoneBy gone newest awaited) (lr : Option Event) (e : Event) where
  -- the store of the newest version of the word, where there is one
  newest-store : (w : ℕ) → 0 < version_of (newest w) →
      (p : Event) × Contains gone p × IsStore p × (p.word ≡ w) × (p.wrote ≡ version_of (newest w))
  newest-store w some = go (newest w) (are.newest_is w) some
    where
      go : (o : Option Newest) → IsNewest gone w o → 0 < version_of o →
          (p : Event) × Contains gone p × IsStore p × (p.word ≡ w) × (p.wrote ≡ version_of o)
      go None none low = absurd (omega (arith, low))
      go (Some n) of low = (of.store, of.of_gone, of.is_store, of.word, of.wrote)

  -- each store of the word is no newer than the newest
  most : (p : Event) → Contains gone p → IsStore p → p.wrote ≤ version_of (newest p.word)
  most p c s = go (newest p.word) (are.newest_is p.word)
    where
      go : (o : Option Newest) → IsNewest gone p.word o → p.wrote ≤ version_of o
      go None none = absurd (none p c s refl)
      go (Some n) of = of.none_newer p c s refl

  -- and so with those of other harts
  newest-of-others : (w hart : ℕ) → 0 < by_others hart (newest w) →
      (p : Event) × Contains gone p × IsStore p × (p.word ≡ w) × (p.id.hart ≢ hart)
      × (p.wrote ≡ by_others hart (newest w))
  newest-of-others w hart some = go (newest w) (are.newest_is w) some
    where
      go : (o : Option Newest) → IsNewest gone w o → 0 < by_others hart o →
          (p : Event) × Contains gone p × IsStore p × (p.word ≡ w) × (p.id.hart ≢ hart) × (p.wrote ≡ by_others hart o)
      go None none low = absurd (omega (arith, low))
      go (Some n) of low = elim (cases_eq n.store.hart hart) [
        | inl same ↦ (
            let is : by_others hart (Some n) ≡ n.others = grind (arith, common_steps, same) in
            elim of.others [
              | inl none ↦ absurd (omega (arith, low, none, is))
              | inr o ↦ (
                o.store,
                o.of_gone,
                o.is_store,
                o.word,
                (λ own. o.other (own ∙ sym same)),
                o.wrote ∙ sym is,
              )
            ])
        | inr apart ↦ (
            let is : by_others hart (Some n) ≡ n.version =
            grind (arith, common_steps, ne_eqb n.store.hart hart apart) in (
              of.store,
              of.of_gone,
              of.is_store,
              of.word,
              (λ own. apart (sym (ap (λ (i : Id). i.hart) of.id) ∙ own)),
              of.wrote ∙ sym is,
            ))
      ]

  other-most : (p : Event) (hart : ℕ) → Contains gone p → IsStore p → p.id.hart ≢ hart →
      p.wrote ≤ by_others hart (newest p.word)
  other-most p hart c s apart = go (newest p.word) (are.newest_is p.word)
    where
      go : (o : Option Newest) → IsNewest gone p.word o → p.wrote ≤ by_others hart o
      go None none = absurd (none p c s refl)
      go (Some n) of = elim (cases_eq n.store.hart hart) [
        | inl same ↦ (
            let low = of.none_of_others p c s refl (λ own. apart (own ∙ same)) in
            grind (arith, common_steps, low, same))
        | inr other ↦ (
            let low = of.none_newer p c s refl in
            grind (arith, common_steps, low, ne_eqb n.store.hart hart other))
      ]

  -- each edge that the versions tell leads to one of the events
  pub told-load : IsLoad e → e.read < version_of (newest e.word) →
      IsEdgeTo gone lr e (record { reason = FromRead; word = e.word; version = version_of (newest e.word) })
  told-load load less =
      let p = newest-store e.word (omega (arith, less)) in
      let is = p.4 in
      record { past = p.0; of_gone = p.1; why = (p.2, load, p.3, omega (arith, less, is)); word = p.3; version = is }

  pub told-store : IsStore e → e.wrote < version_of (newest e.word) →
      IsEdgeTo gone lr e (record { reason = Coherence; word = e.word; version = version_of (newest e.word) })
  told-store store less =
      let p = newest-store e.word (omega (arith, less)) in
      let is = p.4 in
      record {
        past = p.0;
        of_gone = p.1;
        why = (p.2, store, sym p.3, omega (arith, less, is));
        word = p.3;
        version = is;
      }

  pub told-awaited : IsStore e → IsSome (awaited (e.word, e.wrote)) →
      IsEdgeTo gone lr e (record { reason = ReadsFrom; word = e.word; version = e.wrote })
  told-awaited store some = go (awaited (e.word, e.wrote)) (are.awaited_is e.word e.wrote) some
    where
      go : (o : Option Id) → IsAwaited gone (newest e.word) e.word e.wrote o → IsSome o →
          IsEdgeTo gone lr e (record { reason = ReadsFrom; word = e.word; version = e.wrote })
      go None none is = absurd (false≢true is)
      go (Some i) p is = record {
        past = p.0;
        of_gone = p.1;
        why = (p.2, store, p.3, p.4);
        word = p.3;
        version = p.4;
      }

  pub told-late : (r : Event) → lr ≡ Some r → r.read < by_others e.id.hart (newest r.word) →
      IsEdgeTo gone lr e
      (record { reason = AtomicOut; word = r.word; version = by_others e.id.hart (newest r.word) })
  told-late r is less =
      let p = newest-of-others r.word e.id.hart (omega (arith, less)) in
      let wrote = p.5 in
      record {
        past = p.0;
        of_gone = p.1;
        why = (r, is, p.2, p.3, p.4, omega (arith, less, wrote));
        word = p.3;
        version = wrote;
      }

  -- what the versions tell of an event that comes before
  pub data Tells : Type 0 where
    tells_load : IsLoad e → e.read < version_of (newest e.word) → Tells
    tells_store : IsStore e → e.wrote < version_of (newest e.word) → Tells
    tells_awaited : IsStore e → IsSome (awaited (e.word, e.wrote)) → Tells
    tells_late : (r : Event) → lr ≡ Some r → r.read < by_others e.id.hart (newest r.word) → Tells

  pub tells : IsFree gone e → ComesBefore gone lr e → Tells
  tells free (loads_below p c s load word less) =
      let low = most p c s in
      tells_load load (subst (λ w. e.read < version_of (newest w)) word (omega (arith, low, less)))
  tells free (stores_below p c s store word less) =
      let low = most p c s in
      tells_store store (subst (λ w. e.wrote < version_of (newest w)) (sym word) (omega (arith, low, less)))
  tells free (stores_what_was_returned p c load store word read) =
      go (awaited (e.word, e.wrote)) refl (are.awaited_is e.word e.wrote)
    where
      fresh : (o : Option Newest) → IsNewest gone e.word o → e.wrote ≡ version_of o → ⊥
      fresh None none same = let positive = free.positive store in omega (arith, same, positive)
      fresh (Some n) of same = free.free of.store of.of_gone of.is_store store of.word (of.wrote ∙ sym same)

      go : (o : Option Id) → awaited (e.word, e.wrote) ≡ o → IsAwaited gone (newest e.word) e.word e.wrote o → Tells
      go (Some i) is of = tells_awaited store (subst IsSome (sym is) refl)
      go None is none =
          let low = none p c load word read in
          elim (cases_lt e.wrote (version_of (newest e.word))) [
            | inl less ↦ tells_store store less
            | inr least ↦ absurd (fresh (newest e.word) (are.newest_is e.word) (omega (arith, low, least)))
          ]
  tells free (stores_too_late r p is c s word apart less) =
      let low = other-most p e.id.hart c s apart in
      tells_late r is (subst (λ w. r.read < by_others e.id.hart (newest w)) word (omega (arith, low, less)))
