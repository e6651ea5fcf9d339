-- The window of a well formed log is well formed.
use Rattle.std.proofs.Common.{ℕ, ◌++◌, ◌∷◌, ◌≡◌, ◌⊎◌, ◌∙◌, ◌<◌, ◌≤◌, ◌-◌, ◌==◌, ◌&&◌, ◌||◌, [], Bool, Contains}
use Rattle.std.proofs.Common.{List, None, Option, Some, ap, arith, cond, false, filter, get_or, inl, inr}
use Rattle.std.proofs.Common.{length, length-append, map, not, refl, subst, suc, sym}
use Rattle.std.proofs.Common.{append-nil, append_assoc, eq-eqb, true, zero}
use Rattle.std.proofs.lemmas.Option.{none-some, same_Some}
use Rattle.std.specs.List.{list_any}
use Rattle.std.specs.Prelude.{nat_le, nat_lt}
use Rattle.std.proofs.lemmas.Bool.{false≢true, leb-true}
use Rattle.std.proofs.lemmas.Grind.{common_steps}
use Rattle.std.proofs.lemmas.List.{length-map, map-append}
use Rattle.std.proofs.lemmas.List.Elements.{All-contains, Contains-append_left, Contains-append_right}
use Rattle.std.proofs.lemmas.List.Elements.{filter-append, filter_passes}
use Rattle.std.proofs.lemmas.List.Folds.{list_any_none}
use Rattle.rv_event.proofs.Beginnings.{numbered_within}
use Rattle.rv_event.proofs.Growing.{All-from_contains}
use Rattle.rv_event.proofs.Indexed.{IndexedWithin, SoundWithin, indexed_within, none-lowest, sound_from_none}
use Rattle.rv_event.proofs.Merged.{Contains-filter, Contains-unfilter}
use Rattle.rv_event.proofs.Names.{Contains-cons, Contains-here, Contains-map, Contains-none, named-is}
use Rattle.rv_event.proofs.Names.{writer-is}
use Rattle.rv_event.proofs.Pushed.{WellFormed-nil, WellFormed-push, within-front}
use Rattle.rv_event.specs.Faults.{admits, can_be_named, deps_fault, expected, fault_if, fault_of, first_faults_within}
use Rattle.rv_event.specs.Faults.{is_bad_dependency, is_reserved, is_sc, lowest, names_no_value}
use Rattle.rv_event.specs.Faults.{reservation_fault, source_fault, taken_fault}
use Rattle.rv_event.specs.declared.fault.Fault.{Fault}
use Rattle.rv_event.specs.declared.fault.Fault.TheVariants.{Dependency, Full, NoReservation, OtherSource, Sequence}
use Rattle.rv_event.specs.declared.fault.Fault.TheVariants.{TooManyDeps}
use Rattle.rv_event.specs.Log.{Earlier, events, named, of_hart, writer}
use Rattle.rv_event.specs.Operations.{IsStore, is_store}
use Rattle.rv_event.specs.WellFormed.{WellFormed, WellFormedWithin}
use Rattle.rv_event.specs.declared.event.Dep.{Dep}
use Rattle.rv_event.specs.declared.event.Entry.{Entry}
use Rattle.rv_event.specs.declared.event.Event.{Event}
use Rattle.rv_event.specs.declared.event.Id.{Id}
use Rattle.rv_settle.proofs.Counted.{CountsFrom, count-high, is_high, own-window}
use Rattle.rv_settle.proofs.Pairs.{reserved-window}
use Rattle.rv_settle.proofs.Windows.{onto-window}
use Rattle.rv_settle.specs.Windows.{IsKept, KeepsFew, KeepsPairs, renumbered, window}

-- where there is no fault, none of the list is one
pick : (faults : List (Option Fault)) (k : ℕ) → lowest faults ≡ None → get_or faults k None ≡ None
pick [] k none = refl
pick (None ∷ rest) zero none = refl
pick (None ∷ rest) (suc k) none = pick rest k none
pick (Some f ∷ rest) k none = absurd (none-some f (sym none))

-- a test whose fault is none fails
fault_if-none : (b : Bool) (f : Fault) → fault_if b f ≡ None → b ≡ false
fault_if-none true f none = absurd (none-some f (sym none))
fault_if-none false f none = refl

-- where no element passes a test, each fails it
any-false : {X : Type 0} (p : X → Bool) (xs : List X) → list_any p xs ≡ false → (x : X) → Contains xs x → p x ≡ false
any-false p [] none x c = absurd (Contains-none x c)
any-false {X} p (y ∷ ys) none x c =
    go (p y) refl none (Contains-cons y ys x c) (λ rest d. any-false p ys rest x d)
  where
    go : (b : Bool) → p y ≡ b → (b || list_any p ys) ≡ false → (y ≡ x) ⊎ Contains ys x →
        (list_any p ys ≡ false → Contains ys x → p x ≡ false) → p x ≡ false
    go true is none' _ again = absurd (false≢true (sym none'))
    go false is none' (inl same) again = ap p (sym same) ∙ is
    go false is none' (inr d) again = again none' d

-- a filter keeps no more than there is
pub shorter : {X : Type 0} (p : X → Bool) (xs : List X) → length (filter p xs) ≤ length xs
shorter p [] = omega arith
shorter {X} p (x ∷ xs) = go (p x) (shorter p xs)
  where
    go : (b : Bool) → length (filter p xs) ≤ length xs →
        length (cond b (x ∷ filter p xs) (filter p xs)) ≤ length (x ∷ xs)
    go true less = omega (arith, less)
    go false less = omega (arith, less)

-- the three parts of a dependency that is not bad
bad-parts : (less names fits : Bool) → (not less || names || not fits) ≡ false →
    (less ≡ true) × (names ≡ false) × (fits ≡ true)
bad-parts true false true fine = (refl, refl, refl)
bad-parts true false false fine = absurd (false≢true (sym fine))
bad-parts true true fits fine = absurd (false≢true (sym fine))
bad-parts false names fits fine = absurd (false≢true (sym fine))

-- numbers from m on are counted from there in the same order
lower-less : (m d n : ℕ) → m ≤ d → nat_lt d n ≡ true → nat_lt (d - m) (n - m) ≡ true
lower-less m d n least less = grind (arith, common_steps)

-- an SC that has a reservation
reserved-from : (sc reserved : Bool) → sc ≡ true → (sc && not reserved) ≡ false → reserved ≡ true
reserved-from true true is none = refl
reserved-from true false is none = absurd (false≢true (sym none))
reserved-from false reserved is none = absurd (false≢true is)

module _ (limit : ℕ) (log : List Entry) (first : ℕ → ℕ) (ok : WellFormedWithin limit log)
    (pairs : KeepsPairs first (events log)) (few : KeepsFew first (events log)) where
  -- each hart's events have their numbers
  counts : (part : List Entry) (rest : List Entry) → log ≡ part ++ rest → (h : ℕ) →
      CountsFrom 0 (of_hart h (events part))
  counts part rest cut h k d low =
      let at = numbered_within limit part (within-front limit part rest (subst (WellFormedWithin limit) cut ok)) h k d
      low in
      omega (arith, at)

  module _ (before : List Entry) (x : Entry) (rest : List Entry) (cut : log ≡ before ++ x ∷ rest)
      (kept : IsKept first x.event) where
    abbrev h : ℕ
    h = x.event.id.hart

    abbrev own : List Event
    own = of_hart h (events before)

    front : WellFormedWithin limit before
    front = within-front limit before (x ∷ rest) (subst (WellFormedWithin limit) cut ok)

    faultless : lowest (first_faults_within limit (events before) x.event ++ source_fault before x ∷
        deps_fault x.event ∷ []) ≡ None
    faultless = ok before rest x cut

    sound : SoundWithin limit (events before) x.event
    sound = sound_from_none (events before) x.event (source_fault before x ∷ deps_fault x.event ∷ []) faultless

    number : x.event.id.seq ≡ length own
    number = sound.seq

    own-counts : CountsFrom 0 own
    own-counts = counts before (x ∷ rest) cut h

    -- so many events of the hart are in the window
    counted : expected (events (window first before)) (renumbered first x.event) ≡ x.event.id.seq - first h
    counted =
        ap (λ (es : List Event). length es) (own-window first h before) ∙
        length-map (filter (is_high (first h)) own) (renumbered first) ∙
        count-high (first h) 0 own own-counts (omega arith) ∙ omega (arith, number)

    -- the hart's events are those before, the new one, and more
    whole-own : of_hart h (events log) ≡ own ++ of_hart h (events (x ∷ rest))
    whole-own =
        ap (λ (l : List Entry). of_hart h (events l)) cut ∙
        ap (of_hart h) (map-append (λ (y : Entry). y.event) before (x ∷ rest)) ∙
        filter-append (λ (e : Event). h == e.id.hart) (events before) (events (x ∷ rest))

    known : IndexedWithin limit (events before)
    known = indexed_within limit before front

    abbrev w : List Event
    w = events (window first before)

    abbrev new : Event
    new = renumbered first x.event

    abbrev olds : List (Option Fault)
    olds = first_faults_within limit (events before) x.event ++ source_fault before x ∷ deps_fault x.event ∷ []

    -- a dependency of the event is good
    good : (d : Dep) → Contains x.event.deps d → is_bad_dependency (events before) x.event d ≡ false
    good d c =
        any-false (is_bad_dependency (events before) x.event) x.event.deps
        (fault_if-none _ Dependency (pick olds 2 faultless)) d c

    -- what it names in the window, it named before
    names : (d : Dep) → first h ≤ d.seq → names_no_value (events before) h d.seq ≡ false →
        names_no_value w h (d.seq - first h) ≡ false
    names d least fine = go (named w (record { hart = h; seq = d.seq - first h })) refl
      where
        go : (o : Option Event) → named w (record { hart = h; seq = d.seq - first h }) ≡ o →
            names_no_value w h (d.seq - first h) ≡ false
        go None is = rw is refl
        go (Some y) is =
            let there = named-is w (record { hart = h; seq = d.seq - first h }) y is in
            let from = onto-window first before y there.0 in
            let same : (record { hart = h; seq = d.seq - first h }) ≡ (renumbered first from.0).id =
            there.1 ∙ ap (λ (e : Event). e.id) (sym from.3) in
            let hart : h ≡ from.0.id.hart = ap (λ (i : Id). i.hart) same in
            let seq : d.seq - first h ≡ from.0.id.seq - first from.0.id.hart = ap (λ (i : Id). i.seq) same in
            let base = ap first hart in
            let kept-a = from.2 in
            let back : d.seq ≡ from.0.id.seq = omega (arith, seq, base, least, kept-a) in
            let id : from.0.id ≡ record { hart = h; seq = d.seq } = grind arith in
            let old : named (events before) (record { hart = h; seq = d.seq }) ≡ Some from.0 =
            subst (λ (i : Id). named (events before) i ≡ Some from.0) id (known.own from.0 from.1) in
            let op : from.0.op ≡ y.op = ap (λ (e : Event). e.op) from.3 in
            let told : names_no_value (events before) h d.seq ≡ not (can_be_named from.0.op) = rw old refl in
            rw (is, sym op) (sym told ∙ fine)

    -- so no dependency in the window is bad
    good-window : (d : Dep) → Contains new.deps d → is_bad_dependency w new d ≡ false
    good-window d c =
        let from = Contains-map (λ (e : Dep). record { kind = e.kind; seq = e.seq - first h })
        (filter (λ (e : Dep). nat_le (first h) e.seq) x.event.deps) d c in
        let least : first h ≤ from.0.seq = leb-true (first h) from.0.seq
        (All-contains (λ (e : Dep). nat_le (first h) e.seq ≡ true)
        (filter (λ (e : Dep). nat_le (first h) e.seq) x.event.deps) from.0
        (filter_passes (λ (e : Dep). nat_le (first h) e.seq) x.event.deps) from.1) in
        let fine = good from.0 (Contains-unfilter (λ (e : Dep). nat_le (first h) e.seq) x.event.deps from.0 from.1) in
        let parts = bad-parts (nat_lt from.0.seq x.event.id.seq) (names_no_value (events before) h from.0.seq)
        (admits x.event.op from.0.kind) fine in
        let less : nat_lt (from.0.seq - first h) (x.event.id.seq - first h) ≡ true =
        lower-less (first h) from.0.seq x.event.id.seq least parts.0 in
        let none = names from.0 least parts.1 in
        let is : is_bad_dependency w new (record { kind = from.0.kind; seq = from.0.seq - first h }) ≡ false =
        rw (less, none, parts.2) refl in
        subst (λ (e : Dep). is_bad_dependency w new e ≡ false) from.2 is

    -- a version that is free is free in the window
    free : is_store x.event.op ≡ true → writer w x.event.word x.event.wrote ≡ None
    free store = go (writer w x.event.word x.event.wrote) refl
      where
        go : (o : Option Event) → writer w x.event.word x.event.wrote ≡ o → writer w x.event.word x.event.wrote ≡ None
        go None is = is
        go (Some y) is =
            let found = writer-is w x.event.word x.event.wrote y is in
            let from = onto-window first before y found.of_log in
            let store-a : IsStore from.0 = subst (λ (e : Event). IsStore e) (sym from.3) found.store in
            let word : x.event.word ≡ from.0.word = found.word ∙ sym (ap (λ (e : Event). e.word) from.3) in
            let version : x.event.wrote ≡ from.0.wrote = found.version ∙ sym (ap (λ (e : Event). e.wrote) from.3) in
            let old : writer (events before) x.event.word x.event.wrote ≡ Some from.0 =
            ap (λ (k : ℕ). writer (events before) k x.event.wrote) word ∙
            ap (λ (k : ℕ). writer (events before) from.0.word k) version ∙ known.written from.0 from.1 store-a in
            absurd (none-some from.0 (sym (sound.fresh store) ∙ old))

    -- the log has the entries before, the entry, and the others
    split : events log ≡ events before ++ events (x ∷ rest)
    split = ap events cut ∙ map-append (λ (y : Entry). y.event) before (x ∷ rest)

    in-log : (m : Event) → Contains (events before) m → Contains (events log) m
    in-log m c = subst (λ (es : List Event). Contains es m) (sym split)
        (Contains-append_left (events before) (events (x ∷ rest)) m c)

    here : Contains (events log) x.event
    here = subst (λ (es : List Event). Contains es x.event) (sym split)
        (Contains-append_right (events before) (events (x ∷ rest)) x.event
        (Contains-here x.event (events rest) x.event refl))

    -- what is earlier than the event stands before it
    inside : (z : Event) → Contains (events log) z → Earlier z x.event → Contains own z
    inside z c earlier =
        let less = earlier.seq in
        let low : z.id.seq < length (of_hart z.id.hart (events before)) =
        subst (λ (k : ℕ). z.id.seq < length (of_hart k (events before))) (sym earlier.hart)
        (omega (arith, less, number)) in
        let found = known.filled z.id low in
        let there = named-is (events before) z.id found.0 found.1 in
        let whole = indexed_within limit log ok in
        let same : found.0 ≡ z = same_Some found.0 z (sym (whole.own found.0 (in-log found.0 there.0))
        ∙ ap (named (events log)) (sym there.1) ∙ whole.own z c) in
        Contains-filter (λ (e : Event). h == e.id.hart) (events before) z
        (subst (λ (e : Event). Contains (events before) e) same there.0) (eq-eqb h z.id.hart (sym earlier.hart))

    -- an SC has its reservation in the window
    reserved : is_sc x.event.op ≡ true → is_reserved (events before) h ≡ true → is_reserved w h ≡ true
    reserved sc whole = reserved-window limit before first front h (events log) x.event refl number sc in-log inside
        (pairs x.event here kept) whole

    -- and the hart has room
    room : (x.event.id.seq - first h) < 4096
    room =
        let one : length (of_hart h (events (x ∷ rest))) ≡ suc (length (of_hart h (events rest))) =
        ap (λ (b : Bool). length (cond b (x.event ∷ of_hart h (events rest)) (of_hart h (events rest))))
        (eq-eqb h h refl) in
        let all = ap (λ (es : List Event). length es) whole-own ∙ length-append own (of_hart h (events (x ∷ rest))) in
        let most = few h in
        omega (arith, one, all, most, number, kept)

    -- so the event has no fault over the window
    none : fault_of (window first before) (record x { event = new }) ≡ None
    none =
        let sequence = ap (λ (b : Bool). fault_if (not b) (Sequence (expected w new))) (eq-eqb _ _ (sym counted)) in
        let dependency = ap (λ (b : Bool). fault_if b Dependency) (list_any_none (is_bad_dependency w new) new.deps
        (All-from_contains (λ d. is_bad_dependency w new d ≡ false) new.deps good-window)) in
        let full = ap (λ (b : Bool). fault_if b Full) (not-full (expected w new) counted) in
        let source = ap (λ (b : Bool). fault_if b OtherSource) one-source in
        let deps = ap (λ (b : Bool). fault_if b TooManyDeps) few-deps in
        none-lowest (first_faults_within 4096 w new ++ source_fault (window first before) (record x { event = new }) ∷
        deps_fault new ∷ []) (
          pick olds 0 faultless,
          (
            sequence,
            (
              dependency,
              (
                pick olds 3 faultless,
                (taken (is_store x.event.op) refl, (reservation (is_sc x.event.op) refl, (full, (source, (deps, tt))))),
              ),
            ),
          ),
        )
      where
        taken : (b : Bool) → is_store x.event.op ≡ b → taken_fault w new ≡ None
        taken true is = rw (is, free is) refl
        taken false is = rw is refl

        reservation : (b : Bool) → is_sc x.event.op ≡ b → reservation_fault w new ≡ None
        reservation false is = rw is refl
        reservation true is =
            let old : is_reserved (events before) h ≡ true =
            reserved-from (is_sc x.event.op) (is_reserved (events before) h) is
            (fault_if-none _ NoReservation (pick olds 5 faultless)) in
            rw (is, reserved is old) refl

        not-full : (n : ℕ) → n ≡ x.event.id.seq - first h → nat_le 4096 n ≡ false
        not-full n is = let low : n < 4096 = omega (arith, room, is) in grind (arith, common_steps)

        other : Entry → Bool
        other y = (y.event.id.hart == h) && not (y.source == x.source)

        one-source : list_any (λ (y : Entry). (y.event.id.hart == h) && not (y.source == x.source))
            (window first before) ≡ false
        one-source =
            let old = fault_if-none _ OtherSource (pick olds 7 faultless) in
            list_any_none (λ (y : Entry). (y.event.id.hart == h) && not (y.source == x.source)) (window first before)
            (All-from_contains
            (λ (y : Entry). ((y.event.id.hart == h) && not (y.source == x.source)) ≡ false) (window first before)
            (λ y c.
            let from = Contains-map (λ (z : Entry). record z { event = renumbered first z.event })
            (filter (λ (z : Entry). nat_le (first z.event.id.hart) z.event.id.seq) before) y c in
            let there = Contains-unfilter (λ (z : Entry). nat_le (first z.event.id.hart) z.event.id.seq) before from.0
            from.1 in
            let false-there = any-false (λ (z : Entry). (z.event.id.hart == h) && not (z.source == x.source)) before old
            from.0 there in
            subst (λ (z : Entry). ((z.event.id.hart == h) && not (z.source == x.source)) ≡ false) from.2 false-there))

        few-deps : nat_lt 8 (length new.deps) ≡ false
        few-deps =
            let old = fault_if-none _ TooManyDeps (pick olds 8 faultless) in
            let short = shorter (λ (e : Dep). nat_le (first h) e.seq) x.event.deps in
            let same : length new.deps ≡ length (filter (λ (e : Dep). nat_le (first h) e.seq) x.event.deps) =
            length-map {B = Dep} (filter (λ (e : Dep). nat_le (first h) e.seq) x.event.deps)
            (λ e. record { kind = e.kind; seq = e.seq - first h }) in
            grind (arith, common_steps, old, short, same)

  -- an entry more leaves the window well formed
  step : (before : List Entry) (x : Entry) (rest : List Entry) → log ≡ before ++ x ∷ rest →
      WellFormed (window first before) → WellFormed (window first (before ++ x ∷ []))
  step before x rest cut formed = go (nat_le (first x.event.id.hart) x.event.id.seq) refl
    where
      parts : window first (before ++ x ∷ []) ≡ window first before ++ window first (x ∷ [])
      parts =
          ap (map (λ (y : Entry). record y { event = renumbered first y.event }))
          (filter-append (λ (y : Entry). nat_le (first y.event.id.hart) y.event.id.seq) before (x ∷ [])) ∙
          map-append (λ (y : Entry). record y { event = renumbered first y.event })
          (filter (λ (y : Entry). nat_le (first y.event.id.hart) y.event.id.seq) before)
          (filter (λ (y : Entry). nat_le (first y.event.id.hart) y.event.id.seq) (x ∷ []))

      go : (b : Bool) → nat_le (first x.event.id.hart) x.event.id.seq ≡ b → WellFormed (window first (before ++ x ∷ []))
      go true is =
          let last : window first (x ∷ []) ≡ (record x { event = renumbered first x.event }) ∷ [] = rw is refl in
          subst WellFormed (sym (parts ∙ ap (λ (l : List Entry). window first before ++ l) last))
          (WellFormed-push (window first before) (record x { event = renumbered first x.event }) formed
          (none before x rest cut (leb-true (first x.event.id.hart) x.event.id.seq is)))
      go false is =
          let last : window first (x ∷ []) ≡ [] = rw is refl in
          subst WellFormed (sym (parts ∙ ap (λ (l : List Entry). window first before ++ l) last ∙
          append-nil (window first before))) formed

  -- entry by entry, the window of the whole log is well formed
  grown : (before rest : List Entry) → log ≡ before ++ rest → WellFormed (window first before) →
      WellFormed (window first log)
  grown before [] cut formed =
      subst (λ (l : List Entry). WellFormed (window first l)) (sym (cut ∙ append-nil before)) formed
  grown before (x ∷ rest) cut formed =
      grown (before ++ x ∷ []) rest (cut ∙ sym (append_assoc before (x ∷ []) rest)) (step before x rest cut formed)

  pub window-formed : WellFormed (window first log)
  window-formed = grown [] log refl WellFormed-nil
