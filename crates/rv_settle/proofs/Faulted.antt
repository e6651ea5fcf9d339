-- The faults of a new event over the log are those over the window.
use Rattle.std.proofs.Common.{Bool, Contains, IsFalse, List, None, Option, Some, ap, arith, eq-eqb}
use Rattle.std.proofs.Common.{false, filter}
use Rattle.std.proofs.Common.{find, inl, inr, length, not, option_map, refl, reverse, subst, sym}
use Rattle.std.proofs.Common.{true}
use Rattle.std.proofs.Common.{ℕ, [], ◌&&◌, ◌++◌, ◌+◌, ◌-◌, ◌<◌, ◌==◌, ◌||◌, ◌∙◌, ◌∷◌, ◌≡◌, ◌≤◌, ◌⊎◌}
use Rattle.std.proofs.lemmas.Bool.{cases_lt, eqb-true, false≢true, le-leb, lt-leb}
use Rattle.std.proofs.lemmas.Grind.{common_steps}
use Rattle.std.proofs.lemmas.List.{length-map, reverse-append}
use Rattle.std.proofs.lemmas.List.Folds.{find-append}
use Rattle.std.proofs.lemmas.Option.{none-some}
use Rattle.std.specs.List.{list_any}
use Rattle.std.specs.Option.{option_or}
use Rattle.std.specs.Prelude.{nat_le, nat_lt}
use Rattle.rv_event.proofs.Beginnings.{numbered_within}
use Rattle.rv_event.proofs.Indexed.{IndexedWithin, indexed_from_WellFormed, indexed_within}
use Rattle.rv_event.proofs.Merged.{Contains-filter}
use Rattle.rv_event.proofs.Names.{Contains-here, Contains-there, named-is, writer-is}
use Rattle.rv_event.specs.Faults.{dependency_fault, deps_fault, expected, fault_if}
use Rattle.rv_event.specs.Faults.{first_faults_within, full_fault, hart_fault, is_bad_dependency}
use Rattle.rv_event.specs.Faults.{is_reserved, is_sc, lowest, names_no_value, reservation_fault}
use Rattle.rv_event.specs.Faults.{sequence_fault}
use Rattle.rv_event.specs.Faults.{source_fault, taken_fault}
use Rattle.rv_event.specs.Log.{events, named, of_hart, writer}
use Rattle.rv_event.specs.Operations.{IsStore, is_exclusive, is_store}
use Rattle.rv_event.specs.WellFormed.{WellFormedWithin}
use Rattle.rv_event.specs.declared.event.Dep.{Dep}
use Rattle.rv_event.specs.declared.event.Entry.{Entry}
use Rattle.rv_event.specs.declared.event.Event.{Event}
use Rattle.rv_event.specs.declared.event.Id.{Id}
use Rattle.rv_event.specs.declared.fault.Fault.{Fault}
use Rattle.rv_event.specs.declared.fault.Fault.TheVariants.{Dependency, Hart, NoReservation}
use Rattle.rv_event.specs.declared.fault.Fault.TheVariants.{OtherSource, Sequence}
use Rattle.rv_event.specs.declared.fault.Fault.TheVariants.{VersionTaken, VersionZero}
use Rattle.rv_settle.proofs.Decided.{comes-back}
use Rattle.rv_settle.proofs.Counted.{CountsFrom, count-high, ends-renumbered, ends_reserved, is_high, is_low}
use Rattle.rv_settle.proofs.Counted.{low-high, own-window}
use Rattle.rv_settle.proofs.Formed.{shorter, window-formed}
use Rattle.rv_settle.proofs.Pairs.{reserved-window, tells}
use Rattle.rv_settle.proofs.Windows.{into-window, onto-window}
use Rattle.rv_settle.specs.Fitting.{DependsWell, FitsPast, HasOldSource, IsUntaken, in_full}
use Rattle.rv_settle.specs.Windows.{IsKept, KeepsFew, KeepsPair, KeepsPairs, deps_from, renumbered, window}

-- two tests that pass for each other are one
pub same-bool : (a b : Bool) → (a ≡ true → b ≡ true) → (b ≡ true → a ≡ true) → a ≡ b
same-bool true true to from = refl
same-bool false false to from = refl
same-bool true false to from = absurd (false≢true (to refl))
same-bool false true to from = absurd (false≢true (from refl))

-- faults side by side, each of the first list told as the other one is
abbrev pub SameFaults : (Fault → Fault) → List (Option Fault) → List (Option Fault) → Type 0
SameFaults f [] [] = Unit {0}
SameFaults f (a ∷ xs) (b ∷ ys) = (a ≡ option_map f b) × SameFaults f xs ys
SameFaults f [] (b ∷ ys) = ⊥
SameFaults f (a ∷ xs) [] = ⊥

-- so is the first one that holds
pub lowest-same : (f : Fault → Fault) (xs ys : List (Option Fault)) → SameFaults f xs ys →
    lowest xs ≡ option_map f (lowest ys)
lowest-same f [] [] same = refl
lowest-same f [] (b ∷ ys) same = absurd same
lowest-same f (a ∷ xs) [] same = absurd same
lowest-same f (a ∷ xs) (None ∷ ys) (is, rest) = rw is (lowest-same f xs ys rest)
lowest-same f (a ∷ xs) (Some g ∷ ys) (is, rest) = rw is refl

-- and so it is where the second one holds, whatever the others are
lowest-early : (f : Fault → Fault) (a b c d : Option Fault) (g : Fault) (xs ys : List (Option Fault)) →
    a ≡ option_map f b → c ≡ option_map f d → d ≡ Some g →
    lowest (a ∷ c ∷ xs) ≡ option_map f (lowest (b ∷ d ∷ ys))
lowest-early f a (Some b) c d g xs ys first second is = rw first refl
lowest-early f a None c d g xs ys first second is = rw (first, second, is) refl

-- a fault that reads the same
pub told : (f : Fault → Fault) (b : Bool) (g : Fault) → f g ≡ g → fault_if b g ≡ option_map f (fault_if b g)
told f true g same = ap Some (sym same)
told f false g same = refl

-- where the second part ends with a reservation, so does the whole
ends-last : (xs ys : List Event) → ends_reserved ys ≡ true → ends_reserved (xs ++ ys) ≡ true
ends-last xs ys reserved = go (find (λ (m : Event). is_exclusive m.op) (reverse ys)) refl
  where
    found : find (λ (m : Event). is_exclusive m.op) (reverse (xs ++ ys)) ≡ option_or
        (find (λ (m : Event). is_exclusive m.op) (reverse ys)) (find (λ (m : Event). is_exclusive m.op) (reverse xs))
    found = ap (find (λ (m : Event). is_exclusive m.op)) (reverse-append xs ys) ∙
        find-append (λ (m : Event). is_exclusive m.op) (reverse ys) (reverse xs)

    go : (o : Option Event) → find (λ (m : Event). is_exclusive m.op) (reverse ys) ≡ o →
        ends_reserved (xs ++ ys) ≡ true
    go (Some m) is =
        ap tells (found ∙ ap (λ (o : Option Event). option_or o
        (find (λ (k : Event). is_exclusive k.op) (reverse xs))) is) ∙ sym (ap tells is) ∙ reserved
    go None is = absurd (false≢true (sym (ap tells is) ∙ reserved))

module _ (limit : ℕ) (log : List Entry) (x : Entry) (first : ℕ → ℕ) (ok : WellFormedWithin limit log)
    (pairs : KeepsPairs first (events log)) (pair : KeepsPair first (events log) x.event)
    (few : KeepsFew first (events log))
    (within : first x.event.id.hart ≤ length (of_hart x.event.id.hart (events log))) (kept : IsKept first x.event)
    (room : x.event.id.seq < first x.event.id.hart + 4096) where
  abbrev h : ℕ
  h = x.event.id.hart

  abbrev n : ℕ
  n = first h

  abbrev es : List Event
  es = events log

  abbrev w : List Event
  w = events (window first log)

  abbrev own : List Event
  own = of_hart h es

  abbrev new : Event
  new = renumbered first x.event

  abbrev full : Fault → Fault
  full = in_full first h

  known : IndexedWithin limit es
  known = indexed_within limit log ok

  known-window : IndexedWithin 4096 w
  known-window = indexed_from_WellFormed (window first log) (window-formed limit log first ok pairs few)

  own-counts : CountsFrom 0 own
  own-counts k d low = let at = numbered_within limit log ok h k d low in omega (arith, at)

  -- so many events of the hart are in the window
  pub counted : expected w new ≡ length own - n
  counted =
      ap (λ (xs : List Event). length xs) (own-window first h log) ∙
      length-map (filter (is_high n) own) (renumbered first) ∙
      count-high n 0 own own-counts (omega arith) ∙ omega arith

  -- its number is the next one in the window where it is in the log
  number-same : (x.event.id.seq == expected es x.event) ≡ (new.id.seq == expected w new)
  number-same =
      same-bool (x.event.id.seq == expected es x.event) (new.id.seq == expected w new)
      (λ is. eq-eqb new.id.seq (expected w new)
      (let at = eqb-true x.event.id.seq (length own) is in omega (arith, at, counted)))
      (λ is. eq-eqb x.event.id.seq (length own)
      (let at = eqb-true new.id.seq (expected w new) is in omega (arith, at, counted, within, kept)))

  pub sequence : sequence_fault es x.event ≡ option_map full (sequence_fault w new)
  sequence = go (x.event.id.seq == expected es x.event) refl
    where
      go : (b : Bool) → (x.event.id.seq == expected es x.event) ≡ b →
          sequence_fault es x.event ≡ option_map full (sequence_fault w new)
      go true is = rw (is, sym number-same ∙ is) refl
      go false is =
          let count : expected es x.event ≡ expected w new + n = omega (arith, counted, within) in
          rw (is, sym number-same ∙ is) (ap (λ (k : ℕ). Some (Sequence k)) count)

  -- what an id names, its id in the window names
  names-same : (k : ℕ) → n ≤ k → names_no_value es h k ≡ names_no_value w h (k - n)
  names-same k least = go (named es (record { hart = h; seq = k })) refl
    where
      go : (o : Option Event) → named es (record { hart = h; seq = k }) ≡ o →
          names_no_value es h k ≡ names_no_value w h (k - n)
      go (Some y) is =
          let there = named-is es (record { hart = h; seq = k }) y is in
          let hart : h ≡ y.id.hart = ap (λ (i : Id). i.hart) there.1 in
          let seq : k ≡ y.id.seq = ap (λ (i : Id). i.seq) there.1 in
          let base = ap first hart in
          let kept-y : IsKept first y = omega (arith, seq, base, least) in
          let id : (renumbered first y).id ≡ record { hart = h; seq = k - n } =
          (let number : y.id.seq - first y.id.hart ≡ k - n = omega (arith, seq, base) in grind arith) in
          let found : named w (record { hart = h; seq = k - n }) ≡ Some (renumbered first y) =
          subst (λ (i : Id). named w i ≡ Some (renumbered first y)) id
          (known-window.own (renumbered first y) (into-window first log y there.0 kept-y)) in
          rw (is, found) refl
      go None is = none (named w (record { hart = h; seq = k - n })) refl
        where
          none : (o : Option Event) → named w (record { hart = h; seq = k - n }) ≡ o →
              names_no_value es h k ≡ names_no_value w h (k - n)
          none None is' = rw (is, is') refl
          none (Some y) is' =
              let there = named-is w (record { hart = h; seq = k - n }) y is' in
              let from = onto-window first log y there.0 in
              let same : (record { hart = h; seq = k - n }) ≡ (renumbered first from.0).id =
              there.1 ∙ ap (λ (e : Event). e.id) (sym from.3) in
              let hart : h ≡ from.0.id.hart = ap (λ (i : Id). i.hart) same in
              let seq : k - n ≡ from.0.id.seq - first from.0.id.hart = ap (λ (i : Id). i.seq) same in
              let base = ap first hart in
              let kept-y = from.2 in
              let back : k ≡ from.0.id.seq = omega (arith, seq, base, least, kept-y) in
              let id : from.0.id ≡ record { hart = h; seq = k } = grind arith in
              absurd (none-some from.0 (sym is ∙ sym (ap (named es) id) ∙ known.own from.0 from.1))

  -- a dependency on what is kept is bad in the window where it is
  bad-same : (d : Dep) → n ≤ d.seq →
      is_bad_dependency es x.event d ≡ is_bad_dependency w new (record { kind = d.kind; seq = d.seq - n })
  bad-same d least =
      let less : nat_lt d.seq x.event.id.seq ≡ nat_lt (d.seq - n) (x.event.id.seq - n) =
      same-bool (nat_lt d.seq x.event.id.seq) (nat_lt (d.seq - n) (x.event.id.seq - n))
      (λ is. grind (arith, common_steps)) (λ is. grind (arith, common_steps)) in
      rw (less, names-same d.seq least) refl

  -- and so are all of them
  any-bad : (deps : List Dep) →
      ((d : Dep) → Contains deps d → d.seq < n → IsFalse (is_bad_dependency es x.event d)) →
      list_any (is_bad_dependency es x.event) deps ≡ list_any (is_bad_dependency w new) (deps_from n deps)
  any-bad [] good = refl
  any-bad (d ∷ deps) good = go (cases_lt d.seq n) (any-bad deps (λ e c low. good e (Contains-there d deps e c) low))
    where
      go : (d.seq < n) ⊎ (n ≤ d.seq) →
          list_any (is_bad_dependency es x.event) deps ≡ list_any (is_bad_dependency w new) (deps_from n deps) →
          list_any (is_bad_dependency es x.event) (d ∷ deps)
          ≡ list_any (is_bad_dependency w new) (deps_from n (d ∷ deps))
      go (inl low) rest = rw (good d (Contains-here d deps d refl) low, lt-leb n d.seq low) rest
      go (inr high) rest =
          rw (bad-same d high, le-leb n d.seq high)
          (ap (λ (b : Bool). is_bad_dependency w new (record { kind = d.kind; seq = d.seq - n }) || b) rest)

  pub dependency : DependsWell es first x.event → dependency_fault es x.event ≡ option_map full (dependency_fault w new)
  dependency depends =
      ap (λ (b : Bool). fault_if b Dependency) (any-bad x.event.deps depends)
      ∙ told full (list_any (is_bad_dependency w new) new.deps) Dependency refl

  -- the writer of its version is kept
  writer-same : IsUntaken es first x.event → IsStore x.event →
      option_map (λ (y : Event). VersionTaken y.id) (writer es x.event.word x.event.wrote)
      ≡ option_map full (option_map (λ (y : Event). VersionTaken y.id) (writer w x.event.word x.event.wrote))
  writer-same free store = go (writer es x.event.word x.event.wrote) refl
    where
      go : (o : Option Event) → writer es x.event.word x.event.wrote ≡ o →
          option_map (λ (y : Event). VersionTaken y.id) (writer es x.event.word x.event.wrote)
          ≡ option_map full (option_map (λ (y : Event). VersionTaken y.id) (writer w x.event.word x.event.wrote))
      go (Some y) is = placed (cases_lt y.id.seq (first y.id.hart))
        where
          placed : (y.id.seq < first y.id.hart) ⊎ (first y.id.hart ≤ y.id.seq) →
              option_map (λ (z : Event). VersionTaken z.id) (writer es x.event.word x.event.wrote)
              ≡ option_map full (option_map (λ (z : Event). VersionTaken z.id) (writer w x.event.word x.event.wrote))
          placed (inl low) =
              let found = writer-is es x.event.word x.event.wrote y is in
              absurd (free y found.of_log low found.store store (sym found.word) (sym found.version))
          placed (inr high) =
              let found = writer-is es x.event.word x.event.wrote y is in
              let there : writer w x.event.word x.event.wrote ≡ Some (renumbered first y) =
              ap (λ (k : ℕ). writer w k x.event.wrote) found.word
              ∙ ap (λ (k : ℕ). writer w y.word k) found.version
              ∙ known-window.written (renumbered first y) (into-window first log y found.of_log high) found.store in
              rw (is, there) (ap (λ (i : Id). Some (VersionTaken i)) (sym (comes-back first y high)))
      go None is = none (writer w x.event.word x.event.wrote) refl
        where
          none : (o : Option Event) → writer w x.event.word x.event.wrote ≡ o →
              option_map (λ (z : Event). VersionTaken z.id) (writer es x.event.word x.event.wrote)
              ≡ option_map full (option_map (λ (z : Event). VersionTaken z.id) (writer w x.event.word x.event.wrote))
          none None is' = rw (is, is') refl
          none (Some y) is' =
              let found = writer-is w x.event.word x.event.wrote y is' in
              let from = onto-window first log y found.of_log in
              let store-a : IsStore from.0 = subst (λ (e : Event). IsStore e) (sym from.3) found.store in
              let word : x.event.word ≡ from.0.word = found.word ∙ sym (ap (λ (e : Event). e.word) from.3) in
              let version : x.event.wrote ≡ from.0.wrote = found.version ∙ sym (ap (λ (e : Event). e.wrote) from.3) in
              let old : writer es x.event.word x.event.wrote ≡ Some from.0 =
              ap (λ (k : ℕ). writer es k x.event.wrote) word
              ∙ ap (λ (k : ℕ). writer es from.0.word k) version ∙ known.written from.0 from.1 store-a in
              absurd (none-some from.0 (sym is ∙ old))

  pub taken : IsUntaken es first x.event → taken_fault es x.event ≡ option_map full (taken_fault w new)
  taken free = go (is_store x.event.op) refl
    where
      go : (b : Bool) → is_store x.event.op ≡ b → taken_fault es x.event ≡ option_map full (taken_fault w new)
      go true is = rw is (writer-same free is)
      go false is = rw is refl

  -- the hart's reservation is told by what is kept, where the event is an SC that comes next
  reserved-same : x.event.id.seq ≡ length own → is_sc x.event.op ≡ true → is_reserved es h ≡ is_reserved w h
  reserved-same next sc =
      same-bool (is_reserved es h) (is_reserved w h)
      (reserved-window limit log first ok h es x.event refl next sc (λ m c. c)
      (λ z c earlier. Contains-filter (λ (e : Event). h == e.id.hart) es z c (eq-eqb h z.id.hart (sym earlier.hart)))
      pair)
      (λ part. ap ends_reserved (low-high n 0 own own-counts)
      ∙ ends-last (filter (is_low n) own) (filter (is_high n) own)
      (sym (ends-renumbered first (filter (is_high n) own)) ∙ sym (ap ends_reserved (own-window first h log)) ∙ part))

  pub reservation : x.event.id.seq ≡ length own →
      reservation_fault es x.event ≡ option_map full (reservation_fault w new)
  reservation next = go (is_sc x.event.op) refl
    where
      go : (b : Bool) → is_sc x.event.op ≡ b → reservation_fault es x.event ≡ option_map full (reservation_fault w new)
      go false is = rw is refl
      go true is = rw (is, reserved-same next is) (told full (not (is_reserved w h)) NoReservation refl)

  pub full-none : x.event.id.seq < limit → x.event.id.seq ≡ length own → full_fault limit es x.event
      ≡ option_map full (full_fault 4096 w new)
  full-none below next =
      let low : length own < limit = omega (arith, below, next) in
      let less : expected w new < 4096 = omega (arith, counted, room, next) in
      rw (lt-leb limit (length own) low, lt-leb 4096 (expected w new) less) refl

  -- an event of its hart from another source is kept
  abbrev is_other : Entry → Bool
  is_other y = (y.event.id.hart == h) && not (y.source == x.source)

  any-other : (xs : List Entry) →
      ((y : Entry) → Contains xs y → y.event.id.seq < first y.event.id.hart → is_other y ≡ false) →
      list_any is_other xs ≡ list_any is_other (window first xs)
  any-other [] own-source = refl
  any-other (y ∷ xs) own-source =
      go (cases_lt y.event.id.seq (first y.event.id.hart))
      (any-other xs (λ z c low. own-source z (Contains-there y xs z c) low))
    where
      go : (y.event.id.seq < first y.event.id.hart) ⊎ (first y.event.id.hart ≤ y.event.id.seq) →
          list_any is_other xs ≡ list_any is_other (window first xs) →
          list_any is_other (y ∷ xs) ≡ list_any is_other (window first (y ∷ xs))
      go (inl low) rest =
          rw (own-source y (Contains-here y xs y refl) low, lt-leb (first y.event.id.hart) y.event.id.seq low) rest
      go (inr high) rest =
          rw (le-leb (first y.event.id.hart) y.event.id.seq high) (ap (λ (b : Bool). is_other y || b) rest)

  pub source : HasOldSource log first x →
      source_fault log x ≡ option_map full (source_fault (window first log) (record x { event = new }))
  source same-source =
      ap (λ (b : Bool). fault_if b OtherSource) (any-other log old)
      ∙ told full (list_any is_other (window first log)) OtherSource refl
    where
      old : (y : Entry) → Contains log y → y.event.id.seq < first y.event.id.hart → is_other y ≡ false
      old y c low = go (y.event.id.hart == h) refl
        where
          go : (b : Bool) → (y.event.id.hart == h) ≡ b → is_other y ≡ false
          go false is = rw is refl
          go true is =
              let same = same-source y c low (eqb-true y.event.id.hart h is) in
              rw (is, eq-eqb y.source x.source same) refl

  pub too-many : length x.event.deps ≤ 8 → deps_fault x.event ≡ option_map full (deps_fault new)
  too-many most =
      let short = shorter (λ (e : Dep). nat_le n e.seq) x.event.deps in
      let same : length new.deps ≡ length (filter (λ (e : Dep). nat_le n e.seq) x.event.deps) =
      length-map {B = Dep} (filter (λ (e : Dep). nat_le n e.seq) x.event.deps)
      (λ e. record { kind = e.kind; seq = e.seq - n }) in
      let old : nat_lt 8 (length x.event.deps) ≡ false = grind (arith, common_steps) in
      let less : nat_lt 8 (length new.deps) ≡ false = grind (arith, common_steps, short, same) in
      rw (old, less) refl

  -- the faults over the log, and those over the window
  abbrev faults : List (Option Fault)
  faults = first_faults_within limit es x.event ++ source_fault log x ∷ deps_fault x.event ∷ []

  abbrev window-faults : List (Option Fault)
  window-faults = first_faults_within 4096 w new
      ++ source_fault (window first log) (record x { event = new }) ∷ deps_fault new ∷ []

  -- the first of them is the same
  pub fault-same : FitsPast limit log first x → lowest faults ≡ option_map full (lowest window-faults)
  fault-same fits = go (x.event.id.seq == expected es x.event) refl
    where
      hart : hart_fault x.event ≡ option_map full (hart_fault new)
      hart = told full (nat_lt 15 h) Hart refl

      go : (b : Bool) → (x.event.id.seq == expected es x.event) ≡ b →
          lowest faults ≡ option_map full (lowest window-faults)
      go true is =
          lowest-same full faults window-faults (
            hart,
            (
              sequence,
              (
                dependency fits.depends,
                (
                  told full (is_store x.event.op && (x.event.wrote == 0)) VersionZero refl,
                  (
                    taken fits.free,
                    (
                      reservation (eqb-true x.event.id.seq (length own) is),
                      (
                        full-none fits.below (eqb-true x.event.id.seq (length own) is),
                        (source fits.source, (too-many fits.few, tt)),
                      ),
                    ),
                  ),
                ),
              ),
            ),
          )
      go false is =
          lowest-early full (hart_fault x.event) (hart_fault new) (sequence_fault es x.event) (sequence_fault w new)
          (Sequence (expected w new)) _ _ hart sequence (rw (sym number-same ∙ is) refl)
