-- What is kept decides, and the window has just its edges and its stale pairs.
use Rattle.std.proofs.Common.{◌++◌, ◌∷◌, ◌≡◌, ◌≢◌, ◌⊎◌, ◌<◌, ◌≤◌, [], Bool, Contains, IsFalse, List, arith}
use Rattle.std.proofs.Common.{false, inl, inr, map, refl, subst, sym, true}
use Rattle.std.proofs.lemmas.Bool.{cases_lt}
use Rattle.std.proofs.lemmas.List.Elements.{All-contains, Contains-push_cases}
use Rattle.rv_cert.proofs.Suffice.{lawful_from_edges}
use Rattle.rv_event.proofs.Common.{map-append, deps_fault, events, source_fault}
use Rattle.rv_event.proofs.Indexed.{IndexedWithin, SoundWithin, indexed_from_WellFormed, indexed_within}
use Rattle.rv_event.proofs.Indexed.{sound_from_none}
use Rattle.rv_event.proofs.Pushed.{within-front, within-last}
use Rattle.rv_event.specs.Orders.{Lawful}
use Rattle.rv_event.specs.declared.event.Entry.{Entry}
use Rattle.rv_event.specs.declared.event.Event.{Event}
use Rattle.rv_event.specs.declared.event.Id.{Id}
use Rattle.rv_event.specs.declared.event.Op.TheVariants.{Carrier}
use Rattle.rv_settle.proofs.Decided.{forward-back, forward-in, none-back, none-in, of_window, order-back, order-in}
use Rattle.rv_settle.proofs.Formed.{window-formed}
use Rattle.rv_settle.proofs.Joined.{not-both}
use Rattle.rv_settle.proofs.Kept.{enough, needed}
use Rattle.rv_settle.proofs.Windows.{into-window, onto-window}
use Rattle.rv_settle.specs.Cuts.{GoesForward, IsOrderOfKept, NoneStaleKept}
use Rattle.rv_settle.specs.Past.{ComesBeforePast}
use Rattle.rv_settle.specs.Windows.{IsKept, renumbered, window}
use Rattle.rv_settle.specs.Laws.{WindowDecides}

-- a log of any length is judged by its window, and the versions of its past
pub window-decides : WindowDecides
window-decides limit model log x active past first before ok plain pairs few is_active cut below kept lawful = (
  λ some.
      let all = needed model (events log) x.event known sound active past cut some.0 is_active
      (subst (λ (es : List Event). Lawful model es some.0) grown some.1) in
      let whole = subst (λ (es : List Event). IsOrderOfKept es past all.2.0) (sym grown) all.2.1 in
      let forward = subst (λ (es : List Event). GoesForward model es all.2.0) (sym grown) all.2.2 in
      let none = subst (λ (es : List Event). NoneStaleKept es past) (sym grown) all.0 in (
        subst (λ (es : List Event). ComesBeforePast es past x.event → ⊥) (sym grown) all.1,
        (
          _,
          lawful_from_edges model w _ known-window
              (none-in model new w first known-new known-window into onto none-carries pairs past stays fails none)
              (forward-in model new w first known-new known-window into onto none-carries pairs past stays fails all.2.0
              whole forward)
              (order-in model new w first known-new known-window into onto none-carries pairs past stays fails all.2.0
              whole),
        ),
      ),
  λ both.
      let whole = order-back model new w first known-new known-window into onto none-carries pairs past stays fails
      both.1.0 both.1.1 in
      let forward = forward-back model new w first known-new known-window into onto none-carries pairs past stays fails
      both.1.0 both.1.1 in
      let none = none-back model new w first known-new known-window into onto none-carries pairs past stays fails
      both.1.0 both.1.1 in
      let rest : List Id = map (of_window first) both.1.0 in
      let some = enough model (events log) x.event known sound active past cut before lawful rest
      (subst (λ (es : List Event). IsOrderOfKept es past rest) grown whole)
      (subst (λ (es : List Event). NoneStaleKept es past) grown none)
      (subst (λ (es : List Event). ComesBeforePast es past x.event → ⊥) grown both.0)
      (subst (λ (es : List Event). GoesForward model es rest) grown forward) in
      (some.0, subst (λ (es : List Event). Lawful model es some.0) (sym grown) some.1),
)
  where
    new : List Event
    new = events (log ++ x ∷ [])

    w : List Event
    w = events (window first (log ++ x ∷ []))

    grown : events (log ++ x ∷ []) ≡ events log ++ x.event ∷ []
    grown = map-append (λ (y : Entry). y.event) log (x ∷ [])

    known : IndexedWithin limit (events log)
    known = indexed_within limit log (within-front limit log (x ∷ []) ok)

    sound : SoundWithin limit (events log) x.event
    sound = sound_from_none (events log) x.event (source_fault log x ∷ deps_fault x.event ∷ [])
        (within-last limit log x ok)

    known-new : IndexedWithin limit new
    known-new = indexed_within limit (log ++ x ∷ []) ok

    known-window : IndexedWithin 4096 w
    known-window =
        indexed_from_WellFormed (window first (log ++ x ∷ []))
        (window-formed limit (log ++ x ∷ []) first ok pairs few)

    into : (a : Event) → Contains new a → IsKept first a → Contains w (renumbered first a)
    into = into-window first (log ++ x ∷ [])

    onto : (y : Event) → Contains w y → (a : Event) × Contains new a × IsKept first a × (renumbered first a ≡ y)
    onto = onto-window first (log ++ x ∷ [])

    none-carries : (a : Event) → Contains new a → a.op ≢ Carrier
    none-carries a there = All-contains (λ (m : Event). m.op ≢ Carrier) new a plain there

    old-or-new : (a : Event) → Contains new a → Contains (events log) a ⊎ (x.event ≡ a)
    old-or-new a there =
        Contains-push_cases (events log) x.event a (subst (λ (es : List Event). Contains es a) grown there)

    stays : (a : Event) → Contains new a → IsFalse (past a) → IsKept first a
    stays a there not_past = go (old-or-new a there) (cases_lt a.id.seq (first a.id.hart))
      where
        go : Contains (events log) a ⊎ (x.event ≡ a) → (a.id.seq < first a.id.hart) ⊎ (first a.id.hart ≤ a.id.seq) →
            IsKept first a
        go _ (inr high) = high
        go (inl old) (inl low) = absurd (not-both (past a) ((below a old).1 low) not_past)
        go (inr same) (inl low) = subst (IsKept first) same kept

    fails : (a : Event) → Contains new a → IsKept first a → IsFalse (past a)
    fails a there high = go (past a) refl
      where
        go : (b : Bool) → past a ≡ b → IsFalse (past a)
        go true gone =
            let low = (below a (cut.of_log a gone)).0 gone in
            absurd (omega (arith, low, high))
        go false stays' = stays'
