-- A log is well formed whatever the order in which the harts' entries were merged.
use Rattle.rv_event.proofs.Common.{common_steps, rules, ◌≡◌, ℕ, Bool, true, false, not, ltb, leb, ◌&&◌, ◌==◌}
use Rattle.rv_event.proofs.Common.{cond, List, [], ◌∷◌, ◌++◌, length, filter, reverse, Contains, find, Some, None}
use Rattle.rv_event.proofs.Common.{unwrap_or, option_map, ◌⊎◌, inl, inr, ⊎_elim, refl, sym, ap, ◌∙◌, arith, subst}
use Rattle.rv_event.proofs.Common.{eq-eqb, eqb-true, map-append, list_any, false≢true, and_parts, filter-append}
use Rattle.rv_event.proofs.Common.{Contains-append_right, any-filter_same, IsStore, of_hart, writer, events}
use Rattle.rv_event.proofs.Common.{expected, dependency_fault, taken_fault, reservation_fault, source_fault}
use Rattle.rv_event.proofs.Common.{deps_fault, fault_of, WellFormed, entries_of, Event, Entry}
use Rattle.rv_event.proofs.Names.{writer-is, Contains-cons, Contains-here, Contains-there}
use Rattle.rv_event.proofs.Indexed.{indexed_from_WellFormed, sound_from_none, lowest-none, none-lowest}
use Rattle.rv_event.proofs.Growing.{filter-map, named-of_hart}
use Rattle.rv_event.proofs.Pushed.{WellFormed-front}

-- where a filtered list is cut, the list itself can be cut
record IsCut {X : Type 0} (p : X → Bool) (xs ys : List X) (x : X) : Type 0 where
  before : List X
  after : List X
  cut : xs ≡ before ++ x ∷ after
  kept : filter p before ≡ ys

cut_filter : {X : Type 0} (p : X → Bool) (xs ys zs : List X) (x : X) → filter p xs ≡ ys ++ x ∷ zs → IsCut p xs ys x
cut_filter p [] [] zs x e = absurd (omega (arith, ap length e))
cut_filter p [] (y ∷ ys) zs x e = absurd (omega (arith, ap length e))
cut_filter {X} p (a ∷ xs) ys zs x e = go (p a) refl ys e (λ ws f. cut_filter p xs ws zs x f)
  where
    kept_more : (ws : List X) → p a ≡ true → IsCut p xs ws x → IsCut p (a ∷ xs) (a ∷ ws) x
    kept_more ws t c = record {
      before = a ∷ c.before;
      after = c.after;
      cut = ap (λ (l : List X). a ∷ l) c.cut;
      kept = rw (t, c.kept);
    }

    left_out : (ws : List X) → p a ≡ false → IsCut p xs ws x → IsCut p (a ∷ xs) ws x
    left_out ws t c = record {
      before = a ∷ c.before;
      after = c.after;
      cut = ap (λ (l : List X). a ∷ l) c.cut;
      kept = rw (t, c.kept);
    }

    go : (b : Bool) → p a ≡ b → (ws : List X) → cond b (a ∷ filter p xs) (filter p xs) ≡ ws ++ x ∷ zs →
        ((us : List X) → filter p xs ≡ us ++ x ∷ zs → IsCut p xs us x) → IsCut p (a ∷ xs) ws x
    go true t [] f again = let h : a ≡ x = cc in
        record { before = []; after = xs; cut = ap (λ (y : X). y ∷ xs) h; kept = refl }
    go true t (w ∷ ws) f again =
        let h : a ≡ w = cc in
        let r : filter p xs ≡ ws ++ x ∷ zs = cc in
        subst (λ (y : X). IsCut p (a ∷ xs) (y ∷ ws) x) h (kept_more ws t (again ws r))
    go false t ws f again = left_out ws t (again ws f)

-- the events of a hart are those of its entries
of_hart-entries : (hart : ℕ) (log : List Entry) → of_hart hart (events log) ≡ events (entries_of hart log)
of_hart-entries hart log = filter-map (λ (x : Entry). x.event) (λ (e : Event). hart == e.id.hart) log

module _ (one other : List Entry) (x : Entry)
    (same : entries_of x.event.id.hart one ≡ entries_of x.event.id.hart other) where
  same_events : of_hart x.event.id.hart (events one) ≡ of_hart x.event.id.hart (events other)
  same_events = of_hart-entries x.event.id.hart one ∙ ap events same ∙ sym (of_hart-entries x.event.id.hart other)

  same_expected : expected (events one) x.event ≡ expected (events other) x.event
  same_expected = ap length same_events

  same_dependency : dependency_fault (events one) x.event ≡ dependency_fault (events other) x.event
  same_dependency =
      grind (arith, common_steps, ltb, unwrap_or, option_map, named-of_hart, find, same_events)

  same_reservation : reservation_fault (events one) x.event ≡ reservation_fault (events other) x.event
  same_reservation = search (unwrap_or, option_map, find, reverse, same_events, rules)

  other_source : Entry → Bool
  other_source y = (y.event.id.hart == x.event.id.hart) && not (y.source == x.source)

  in_hart : (log : List Entry) → list_any other_source (entries_of x.event.id.hart log) ≡ list_any other_source log
  unfolding other_source
  in_hart log =
      any-filter_same other_source (λ (y : Entry). x.event.id.hart == y.event.id.hart) true
      (λ y t. eq-eqb x.event.id.hart y.event.id.hart (sym (eqb-true y.event.id.hart x.event.id.hart
      (and_parts (y.event.id.hart == x.event.id.hart) (not (y.source == x.source)) t).0))) log

  same_source : source_fault one x ≡ source_fault other x
  unfolding other_source
  same_source = search (in_hart, other_source, rules)

  -- apart from versions, a fault is a matter of the hart alone
  same_fault : fault_of one x ≡ None → taken_fault (events other) x.event ≡ None → fault_of other x ≡ None
  same_fault none taken =
      search (
        lowest-none,
        none-lowest,
        same_expected,
        same_dependency,
        same_reservation,
        leb,
        same_source,
        rules,
      )

-- what passes the test stays
pub Contains-filter : {X : Type 0} (p : X → Bool) (xs : List X) (x : X) → Contains xs x → p x ≡ true →
    Contains (filter p xs) x
Contains-filter p [] x (k, l, e) t = absurd (omega arith)
Contains-filter {X} p (y ∷ ys) x c t = go (p y) refl (Contains-cons y ys x c) (λ d. Contains-filter p ys x d t)
  where
    go : (b : Bool) → p y ≡ b → (y ≡ x) ⊎ Contains ys x → (Contains ys x → Contains (filter p ys) x) →
        Contains (cond b (y ∷ filter p ys) (filter p ys)) x
    go true u (inl e) again = Contains-here y (filter p ys) x e
    go true u (inr d) again = Contains-there y (filter p ys) x (again d)
    go false u (inl e) again = absurd (false≢true (sym u ∙ ap p e ∙ t))
    go false u (inr d) again = again d

-- what stays was there
pub Contains-unfilter : {X : Type 0} (p : X → Bool) (xs : List X) (x : X) → Contains (filter p xs) x → Contains xs x
Contains-unfilter p [] x (k, l, e) = absurd (omega arith)
Contains-unfilter {X} p (y ∷ ys) x c = go (p y) c (λ d. Contains-unfilter p ys x d)
  where
    go : (b : Bool) → Contains (cond b (y ∷ filter p ys) (filter p ys)) x → (Contains (filter p ys) x → Contains ys x) →
        Contains (y ∷ ys) x
    go true c again = ⊎_elim (λ e. Contains-here y ys x e) (λ d. Contains-there y ys x (again d))
        (Contains-cons y (filter p ys) x c)
    go false c again = Contains-there y ys x (again c)

-- the two logs have the same entries of each hart, in the same order
abbrev pub SameHarts : List Entry → List Entry → Type 0
SameHarts one other = (hart : ℕ) → entries_of hart one ≡ entries_of hart other

-- an event of a log is one of any log with the same events of its hart
moved : (one other : List Event) (w : Event) → of_hart w.id.hart one ≡ of_hart w.id.hart other → Contains one w →
    Contains other w
moved one other w same c =
    let p : Event → Bool = λ e. w.id.hart == e.id.hart in
    Contains-unfilter p other w (subst (λ (es : List Event). Contains es w) same
    (Contains-filter p one w c (eq-eqb w.id.hart w.id.hart refl)))

events-cut : (log before after : List Entry) (x : Entry) → log ≡ before ++ x ∷ after → events log ≡ events before ++
    x.event ∷ events after
events-cut log before after x e = ap events e ∙ map-append (λ (y : Entry). y.event) before (x ∷ after)

module _ (log other : List Entry) (ok : WellFormed log) (same : SameHarts log other) (before' after' : List Entry)
    (x : Entry) (cut' : other ≡ before' ++ x ∷ after') where
  hart_of : Entry → Bool
  hart_of y = x.event.id.hart == y.event.id.hart

  there : IsCut hart_of log (entries_of x.event.id.hart before') x
  unfolding hart_of
  there =
      let own : hart_of x ≡ true = eq-eqb x.event.id.hart x.event.id.hart refl in
      let rest : entries_of x.event.id.hart (x ∷ after') ≡ x ∷ entries_of x.event.id.hart after' = rw own in
      cut_filter hart_of log (entries_of x.event.id.hart before') (entries_of x.event.id.hart after') x
      (same x.event.id.hart ∙ ap (filter hart_of) cut' ∙ filter-append hart_of before' (x ∷ after') ∙
      ap (λ (l : List Entry). entries_of x.event.id.hart before' ++ l) rest)

  none_before : fault_of there.before x ≡ None
  none_before = ok there.before there.after x there.cut

  same_before : entries_of x.event.id.hart there.before ≡ entries_of x.event.id.hart before'
  unfolding hart_of
  same_before = there.kept

  same_events_of : (hart : ℕ) → of_hart hart (events other) ≡ of_hart hart (events log)
  same_events_of hart = of_hart-entries hart other ∙ ap events (sym (same hart)) ∙ sym (of_hart-entries hart log)

  -- the version is nobody else's: its writer would be the event itself, which stands once
  no_writer : IsStore x.event → (w : Event) → writer (events before') x.event.word x.event.wrote ≡ Some w → ⊥
  no_writer s w e =
      let known = indexed_from_WellFormed log ok in
      let is = writer-is (events before') x.event.word x.event.wrote w e in
      let in_other : Contains (events other) w = grind (arith, common_steps) in
      let in_log : Contains (events log) w = moved (events other) (events log) w (same_events_of w.id.hart) in_other in
      let x_in_log : Contains (events log) x.event = subst (λ (es : List Event). Contains es x.event)
      (sym (events-cut log there.before there.after x there.cut))
      (Contains-append_right (events there.before) (x.event ∷ events there.after) x.event
      (Contains-here x.event (events there.after) x.event refl)) in
      let theirs : writer (events log) w.word w.wrote ≡ Some w = known.written w in_log is.store in
      let own : writer (events log) x.event.word x.event.wrote ≡ Some x.event = known.written x.event x_in_log s in
      let it : w ≡ x.event = grind (arith, common_steps) in
      let in_before : Contains (events before') x.event = grind (arith, common_steps) in
      let in_there : Contains (events there.before) x.event = moved (events before') (events there.before) x.event
      (sym (same_events there.before before' x same_before)) in_before in
      let front : WellFormed there.before = WellFormed-front there.before (x ∷ there.after)
      (subst WellFormed there.cut ok) in
      let low = (indexed_from_WellFormed there.before front).below x.event in_there in
      let at = (sound_from_none (events there.before) x.event (source_fault there.before x ∷ deps_fault x.event ∷ [])
      none_before).seq in
      omega arith

  no_fault : fault_of before' x ≡ None
  no_fault = search (same_fault, same_before, none_before, cond, option_map, no_writer, rules)

-- a log is well formed whatever the order in which its harts' entries were merged
pub WellFormed-merge : (log other : List Entry) → WellFormed log → SameHarts log other → WellFormed other
WellFormed-merge log other ok same before after x cut = no_fault log other ok same before after x cut
