-- The harts of a history when an event comes or goes.
use Rattle.rv_edges.proofs.Common.{common_steps, ◌≡◌, ◌≢◌, ℕ, ◌<◌, ◌≤◌, List, [], ◌∷◌, ◌++◌, length, ◌⊎◌, inl}
use Rattle.rv_edges.proofs.Common.{inr, refl, sym, ap, ◌∙◌, arith, slice_set, subst, slice_index_or, slice_get}
use Rattle.rv_edges.proofs.Common.{Some, ◌-◌, length-append, get_or, cases_lt, cases_eq, get_or_from_slice_get}
use Rattle.rv_edges.proofs.Common.{map-append, get_or_append_left, length_push, get_or-append_seam, events}
use Rattle.rv_edges.proofs.Common.{of_hart, Event, Entry, MemoryModel, Hart, IsHartOf, hart_of_log, HartOrder}
use Rattle.rv_edges.proofs.Common.{own-push, hart-other, hart-back, own-other, AreHarts, IsHartAt, hart_from}
use Rattle.std.proofs.lemmas.List.{get_or-set_other, get_or-set_same, length-set}
use Rattle.rv_edges.proofs.Sides.{same_front}

-- a hart of the list, by its place
pub number-is : (model : MemoryModel) (log : List Event) (h : ℕ) (x : HartOrder) → IsHartAt model log h x →
    x.kept.number ≡ h
number-is model log h x at = ap (λ (y : Hart). y.number) at.hart

-- what is kept of a hart changes with the log
pub at-changed :
    (model : MemoryModel) (log log' : List Event) (h : ℕ) (x x' : HartOrder) → IsHartAt model log h x →
    x'.kept.model ≡ x.kept.model → x'.kept.number ≡ x.kept.number → IsHartOf log' x' → IsHartAt model log' h x'
at-changed model log log' h x x' at same_model same_number of_log = record {
  of_log = of_log;
  hart = λ i. record { model = is_model i; number = is_number i; events = of_hart (is_number i) log' };
}
  where
    is_model : x'.kept.model ≡ model
    is_model = same_model ∙ ap (λ (y : Hart). y.model) at.hart

    is_number : x'.kept.number ≡ h
    is_number = same_number ∙ number-is model log h x at

-- another hart's event changes nothing
pub at-other :
    (model : MemoryModel) (log : List Event) (e : Event) (h : ℕ) (x : HartOrder) → h ≢ e.id.hart →
    IsHartAt model log h x → IsHartAt model (log ++ e ∷ []) h x
at-other model log e h x other at =
    let is = number-is model log h x at in
    at-changed model log (log ++ e ∷ []) h x x at refl refl
    (hart-other log e x (λ same. other (sym (same ∙ is))) at.of_log)

-- nor does it when it goes
pub at-back :
    (model : MemoryModel) (log : List Event) (e : Event) (h : ℕ) (x : HartOrder) → h ≢ e.id.hart →
    IsHartAt model (log ++ e ∷ []) h x → IsHartAt model log h x
at-back model log e h x other at =
    let is = number-is model (log ++ e ∷ []) h x at in
    at-changed model (log ++ e ∷ []) log h x x at refl refl
    (hart-back log e x (λ same. other (sym (same ∙ is))) at.of_log)

module _ (model : MemoryModel) (log log' : List Event) (harts : List HartOrder) (n : ℕ) (x : HartOrder)
    (own : AreHarts model log harts) (within : n < length harts) (is : IsHartAt model log' n x)
    (others : (h : ℕ) (y : HartOrder) → h ≢ n → IsHartAt model log h y → IsHartAt model log' h y)
    (empty : (h : ℕ) → h ≢ n → of_hart h log ≡ [] → of_hart h log' ≡ []) where
  each : (h : ℕ) (y : HartOrder) → h < length (slice_set harts n x) → y ≡ slice_index_or (slice_set harts n x) h y →
      IsHartAt model log' h y
  each h y low at = go (cases_eq h n)
    where
      go : (h ≡ n) ⊎ (h ≢ n) → IsHartAt model log' h y
      go (inl same) =
          let here : y ≡ x = at ∙ ap (λ (k : ℕ). slice_index_or (slice_set harts n x) k y) same
          ∙ get_or-set_same harts n x y within in
          subst (λ (z : HartOrder). IsHartAt model log' h z) (sym here)
          (subst (λ (k : ℕ). IsHartAt model log' k x) (sym same) is)
      go (inr apart) = others h y apart (own.each h y (omega (arith, low, length-set harts n x))
          (at ∙ get_or-set_other harts n h x y apart))

  -- one hart changes, and the log in its events alone
  pub harts-set : AreHarts model log' (slice_set harts n x)
  harts-set = record {
    each = each;
    none = λ h high. empty h (grind (arith, common_steps)) (own.none h (grind (arith, common_steps)));
  }

-- the hart of the event has it, and the others stay
pub harts-push :
    (model : MemoryModel) (log : List Event) (harts : List HartOrder) (e : Event) (x : HartOrder) →
    AreHarts model log harts → e.id.hart < length harts → IsHartAt model (log ++ e ∷ []) e.id.hart x →
    AreHarts model (log ++ e ∷ []) (slice_set harts e.id.hart x)
harts-push model log harts e x own within is = harts-set model log (log ++ e ∷ []) harts e.id.hart x own within is
    (λ h y other at. at-other model log e h y other at)
    (λ h other none. own-other log e h (λ same. other (sym same)) ∙ none)

-- the hart of the event is as it was
pub harts-same :
    (model : MemoryModel) (log : List Event) (harts : List HartOrder) (n : ℕ) (x : HartOrder) →
    AreHarts model log harts → n < length harts → IsHartAt model log n x → AreHarts model log (slice_set harts n x)
harts-same model log harts n x own within is = harts-set model log log harts n x own within is (λ h y other at. at)
    (λ h other none. none)

-- the hart of the last event is without it
pub harts-pop :
    (model : MemoryModel) (front : List Event) (harts : List HartOrder) (e : Event) (x : HartOrder) →
    AreHarts model (front ++ e ∷ []) harts → e.id.hart < length harts → IsHartAt model front e.id.hart x →
    AreHarts model front (slice_set harts e.id.hart x)
harts-pop model front harts e x own within is = harts-set model (front ++ e ∷ []) front harts e.id.hart x own within is
    (λ h y other at. at-back model front e h y other at)
    (λ h other none. sym (own-other front e h (λ same. other (sym same))) ∙ none)

-- a hart that is opened has no events
pub harts-opened :
    (model : MemoryModel) (log : List Event) (harts : List HartOrder) (x : HartOrder) → AreHarts model log harts →
    ((hart_of_log log x).events ≡ [] → IsHartOf log x) → x.kept.model ≡ model → x.kept.number ≡ length harts →
    AreHarts model log (harts ++ x ∷ [])
harts-opened model log harts x own opens is_model is_number = record { each = each; none = none }
  where
    here : IsHartAt model log (length harts) x
    here = record {
      of_log = opens (ap (λ (n : ℕ). of_hart n log) is_number ∙ own.none (length harts) (omega arith));
      hart = λ i. record { model = is_model i; number = is_number i; events = of_hart (is_number i) log };
    }

    each : (h : ℕ) (y : HartOrder) → h < length (harts ++ x ∷ []) → y ≡ slice_index_or (harts ++ x ∷ []) h y →
        IsHartAt model log h y
    each h y low at = go (cases_lt h (length harts))
      where
        go : (h < length harts) ⊎ (length harts ≤ h) → IsHartAt model log h y
        go (inl old) = own.each h y old (at ∙ get_or_append_left harts (x ∷ []) y h old)
        go (inr high) =
            let last : h ≡ length harts = omega (arith, length_push harts x) in
            let same : y ≡ x = at ∙ ap (λ (n : ℕ). get_or (harts ++ x ∷ []) n y) last
            ∙ get_or-append_seam harts x [] y in
            subst (λ (n : ℕ). IsHartAt model log n y) (sym last)
            (subst (IsHartAt model log (length harts)) (sym same) here)

    none : (h : ℕ) → length (harts ++ x ∷ []) ≤ h → of_hart h log ≡ []
    none h high = own.none h (omega (arith, length_push harts x))

not_both : {X : Type 0} (xs : List X) (y : X) → xs ++ y ∷ [] ≡ [] → ⊥
not_both xs y e = omega (arith, ap length e, length-append xs (y ∷ []))

-- the list reaches to each hart that has an event
pub reaches-to_hart :
    (model : MemoryModel) (front : List Event) (harts : List HartOrder) (e : Event) →
    AreHarts model (front ++ e ∷ []) harts → e.id.hart < length harts
reaches-to_hart model front harts e own = go (cases_lt e.id.hart (length harts))
  where
    go : (e.id.hart < length harts) ⊎ (length harts ≤ e.id.hart) → e.id.hart < length harts
    go (inl low) = low
    go (inr high) = absurd (not_both (of_hart e.id.hart front) e
        (sym (own-push front e e.id.hart refl) ∙ own.none e.id.hart high))

-- the events of a log without its last entry
pub events-pop : (log front : List Entry) (x : Entry) → log ≡ front ++ x ∷ [] →
    events log ≡ events front ++ x.event ∷ []
events-pop log front x is = ap events is ∙ map-append (λ (y : Entry). y.event) front (x ∷ [])

-- lists that are equal have the same last element
pub same_last : {X : Type 0} (xs ys : List X) (x y : X) → xs ++ x ∷ [] ≡ ys ++ y ∷ [] → x ≡ y
same_last {X} xs ys x y is =
    sym (get_or-append_seam xs x [] x) ∙ ap (λ (zs : List X). get_or zs (length xs) x) is
    ∙ ap (λ (zs : List X). get_or (ys ++ y ∷ []) (length zs) x) (same_front xs ys x y is)
    ∙ get_or-append_seam ys y [] x

-- an entry that came last, and its hart as it is found in the list
module _ (model : MemoryModel) (old log : List Entry) (entry last : Entry) (harts : List HartOrder) (x : HartOrder)
    (both : log ++ last ∷ [] ≡ old ++ entry ∷ []) (own : AreHarts model (events old) harts)
    (reach : entry.event.id.hart < length harts) (at : x ≡ slice_index_or harts entry.event.id.hart x) where
  abbrev e : Event
  e = entry.event

  -- the log before it
  pub log-was : log ≡ old
  log-was = same_front log old last entry both

  -- the last event is its event
  pub event-is : last.event ≡ e
  event-is = ap (λ (y : Entry). y.event) (same_last log old last entry both)

  -- its hart is the log's
  pub found-hart : IsHartAt model (events old) e.id.hart x
  found-hart = own.each e.id.hart x reach at

  -- which it is among the entries before it too
  pub found-of_log : IsHartOf (events log) x
  found-of_log = subst (λ (l : List Entry). IsHartOf (events l) x) (sym log-was) found-hart.of_log

  -- and is that of the history
  pub found-is : hart_of_log (events log) x ≡ hart_from model (events old) e.id.hart
  found-is = ap (λ (l : List Entry). hart_of_log (events l) x) log-was ∙ found-hart.hart

  -- the harts are the same where it did not join
  pub harts-stay :
      (x' : HartOrder) → x'.kept.model ≡ x.kept.model → x'.kept.number ≡ x.kept.number → IsHartOf (events log) x' →
      AreHarts model (events old) (slice_set harts e.id.hart x')
  harts-stay x' same_model same_number of_log = harts-same model (events old) harts e.id.hart x' own reach
      (at-changed model (events old) (events old) e.id.hart x x' found-hart same_model same_number
      (subst (λ (l : List Entry). IsHartOf (events l) x') log-was of_log))

  -- and have it where it did
  pub harts-grow :
      (x' : HartOrder) → x'.kept.model ≡ x.kept.model → x'.kept.number ≡ x.kept.number →
      IsHartOf (events log ++ last.event ∷ []) x' →
      AreHarts model (events old ++ e ∷ []) (slice_set harts e.id.hart x')
  harts-grow x' same_model same_number of_log = harts-push model (events old) harts e x' own reach
      (at-changed model (events old) (events old ++ e ∷ []) e.id.hart x x' found-hart same_model same_number
      (subst (λ (a : Event). IsHartOf (events old ++ a ∷ []) x') event-is
      (subst (λ (l : List Entry). IsHartOf (events l ++ last.event ∷ []) x') log-was of_log)))

-- the last entry of a log, and its hart as it is found in the list
module _ (model : MemoryModel) (log front : List Entry) (entry : Entry) (harts : List HartOrder)
    (is : log ≡ front ++ entry ∷ []) (own : AreHarts model (events log) harts) where
  own' : AreHarts model (events front ++ entry.event ∷ []) harts
  own' = subst (λ (es : List Event). AreHarts model es harts) (events-pop log front entry is) own

  -- the list has the hart
  pub last-within : entry.event.id.hart < length harts
  last-within = reaches-to_hart model (events front) harts entry.event own'

  module _ (x : HartOrder) (at : x ≡ slice_index_or harts entry.event.id.hart x) where
    -- it has the event last
    pub last-hart : IsHartAt model (events front ++ entry.event ∷ []) entry.event.id.hart x
    last-hart = own'.each entry.event.id.hart x last-within at

    -- and the harts are those of the others without it
    pub harts-shrink :
        (x' : HartOrder) → x'.kept.model ≡ x.kept.model → x'.kept.number ≡ x.kept.number → IsHartOf (events front) x' →
        AreHarts model (events front) (slice_set harts entry.event.id.hart x')
    harts-shrink x' same_model same_number of_log =
        harts-pop model (events front) harts entry.event x' own' last-within
        (at-changed model (events front ++ entry.event ∷ []) (events front) entry.event.id.hart x x' last-hart
        same_model same_number of_log)

-- the last entry of a log is the one that was added last
pub last_pushed : {X : Type 0} (xs front : List X) (x y : X) → xs ≡ front ++ x ∷ [] →
    slice_get xs (length xs - 1) ≡ Some y → y ≡ x
last_pushed {X} xs front x y is e =
    let at : length xs - 1 ≡ length front = omega (arith, ap length is, length-append front (x ∷ [])) in
    sym (get_or_from_slice_get xs (length xs - 1) y y e) ∙ ap (λ k. get_or xs k y) at
    ∙ ap (λ (ys : List X). get_or ys (length front) y) is ∙ get_or-append_seam front x [] y
