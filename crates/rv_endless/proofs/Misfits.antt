-- The first fault of an entry that doesn't fit what was forgotten.
use Rattle.rv_endless.proofs.Faulty.{AreFrom, first-told, tested, written}
use Rattle.rv_endless.proofs.Next.{below, depends-well, first, full, gone, gone-entry, hart, kept, pair}
use Rattle.rv_endless.proofs.Next.{named-gone, old-source, room, seq-is, untaken}
use Rattle.rv_endless.specs.Runs.{bare, HasNumber, HasStopped, IsAnswered, IsNext, StandsFor}
use Rattle.rv_endless.specs.Runs.{in_window, limit, misfit_answer, misfit_number}
use Rattle.rv_endless.specs.Steps.{IsExplained, IsToldInFull}
use Rattle.rv_endless.specs.declared.answer.Answer.{Answer}
use Rattle.rv_endless.specs.declared.run.Endless.{Endless}
use Rattle.rv_event.proofs.Growing.{Any-from_contains}
use Rattle.rv_event.proofs.Indexed.{IndexedWithin, indexed_within}
use Rattle.rv_event.proofs.Names.{Contains-mapped, writer-is}
use Rattle.rv_event.specs.Faults.{dependency_fault, deps_fault, expected, fault_if, fault_of}
use Rattle.rv_event.specs.Faults.{fault_within, full_fault, hart_fault, is_bad_dependency}
use Rattle.rv_event.specs.Faults.{is_reserved, is_sc, lowest, reservation_fault, sequence_fault}
use Rattle.rv_event.specs.Faults.{source_fault, taken_fault, zero_fault}
use Rattle.rv_event.specs.Log.{events, writer}
use Rattle.rv_event.specs.Operations.{IsStore, is_store}
use Rattle.rv_event.specs.Texts.{fault_number}
use Rattle.rv_event.specs.declared.event.Entry.{Entry}
use Rattle.rv_event.specs.declared.event.Event.{Event}
use Rattle.rv_event.specs.declared.fault.Fault.{Fault}
use Rattle.rv_event.specs.declared.fault.Fault.TheVariants.{Dependency, Full, Hart, NoReservation}
use Rattle.rv_event.specs.declared.fault.Fault.TheVariants.{OtherSource, Sequence, TooManyDeps}
use Rattle.rv_event.specs.declared.fault.Fault.TheVariants.{VersionTaken, VersionZero}
use Rattle.rv_past.specs.Facts.{DependsBadly, DependsOnValues, HasSource, IsMisfit, IsUnwritten}
use Rattle.rv_past.specs.Facts.{IsWrittenBy}
use Rattle.rv_past.specs.declared.facts.Misfit.{Misfit}
use Rattle.rv_settle.proofs.Faulted.{dependency, full-none, reservation, sequence, source, taken}
use Rattle.rv_settle.proofs.Faulted.{told}
use Rattle.rv_settle.specs.Windows.{renumbered, window}
use Rattle.std.proofs.Common.{if◌then◌else◌, ℕ, ◌≡◌, ◌≢◌, ◌∙◌, ◌<◌, ◌≤◌, ◌∷◌, ◌==◌, ◌&&◌, ◌⊎◌, []}
use Rattle.std.proofs.Common.{Bool, Contains, List, None, Option, Some, ap, arith, eq-eqb, false}
use Rattle.std.proofs.Common.{inl, inr, length, not, option_map, refl, subst, sym, true}
use Rattle.std.proofs.lemmas.Bool.{lt-ltb, ne_eqb}
use Rattle.std.proofs.lemmas.List.Folds.{list_any-from_Any}
use Rattle.std.proofs.lemmas.Option.{none-some, same_Some}
use Rattle.std.specs.List.{list_any}
use Rattle.std.specs.Prelude.{nat_le, nat_lt}
use Rattle.rv_past.specs.declared.facts.Misfit.TheVariants as misfit

-- each fault of the list that holds has the property
abbrev AllHave : (Fault → Type 0) → List (Option Fault) → Type 0
AllHave P [] = Unit {0}
AllHave P (o ∷ xs) = ((f : Fault) → o ≡ Some f → P f) × AllHave P xs

-- so has the first one
lowest-has : (P : Fault → Type 0) (xs : List (Option Fault)) → AllHave P xs → (f : Fault) → lowest xs ≡ Some f → P f
lowest-has P [] all f is = absurd (none-some f is)
lowest-has P (Some g ∷ xs) all f is = subst P (same_Some g f is) (all.0 g refl)
lowest-has P (None ∷ xs) all f is = lowest-has P xs all.1 f is

-- a fault by a test is that fault
is-tested : (P : Fault → Type 0) (b : Bool) (g : Fault) → P g → (f : Fault) → fault_if b g ≡ Some f → P f
is-tested P true g p f is = subst P (same_Some g f is) p
is-tested P false g p f is = absurd (none-some f is)

module _ (run : Endless) (log : List Entry) (x : Entry) (stands : StandsFor run log) (next : IsNext run x) where
  abbrev e : Event
  e = x.event

  abbrev es : List Event
  es = events log

  abbrev fst : ℕ → ℕ
  fst = first run log x stands next

  abbrev h : ℕ
  h = hart run log x stands next

  abbrev n : ℕ
  n = fst h

  abbrev wl : List Entry
  wl = window fst log

  abbrev w : List Event
  w = events wl

  abbrev new : Event
  new = renumbered fst e

  abbrev to-log : Fault → Fault
  to-log = full run log x stands next

  abbrev forgotten : List Entry
  forgotten = gone run log x stands next

  known : IndexedWithin limit es
  known = indexed_within limit log stands.formed

  -- the faults over the window have the numbers of their places
  from-taken : (f : Fault) → taken_fault w new ≡ Some f → fault_number f ≡ 5
  from-taken f is = go (is_store e.op) refl
    where
      go : (b : Bool) → is_store e.op ≡ b → fault_number f ≡ 5
      go true at = written (writer w new.word new.wrote) f (sym (ap (λ (b : Bool). if b then
          option_map (λ (y : Event). VersionTaken y.id) (writer w new.word new.wrote) else None) at) ∙ is)
      go false at = absurd (none-some f (sym (ap (λ (b : Bool). if b then
          option_map (λ (y : Event). VersionTaken y.id) (writer w new.word new.wrote) else None) at) ∙ is))

  from-nine : AreFrom 9 (deps_fault new ∷ [])
  from-nine = (tested (nat_lt 8 (length new.deps)) TooManyDeps, tt)

  abbrev is_other : Entry → Bool
  is_other y = (y.event.id.hart == h) && not (y.source == x.source)

  from-eight : AreFrom 8 (source_fault wl (in_window run x) ∷ deps_fault new ∷ [])
  from-eight = (tested (list_any is_other wl) OtherSource, from-nine)

  from-five : AreFrom 5 (taken_fault w new ∷ reservation_fault w new ∷ full_fault 4096 w new
      ∷ source_fault wl (in_window run x) ∷ deps_fault new ∷ [])
  from-five = (
    from-taken,
    (
      tested (is_sc e.op && not (is_reserved w h)) NoReservation,
      (tested (nat_le 4096 (expected w new)) Full, from-eight),
    ),
  )

  from-three : AreFrom 3 (dependency_fault w new ∷ zero_fault new ∷ taken_fault w new ∷ reservation_fault w new
      ∷ full_fault 4096 w new ∷ source_fault wl (in_window run x) ∷ deps_fault new ∷ [])
  from-three = (
    tested (list_any (is_bad_dependency w new) new.deps) Dependency,
    (tested (is_store e.op && (e.wrote == 0)) VersionZero, from-five),
  )

  from-hart : (f : Fault) → hart_fault new ≡ Some f → fault_number f ≡ 1
  from-hart = tested (nat_lt 15 h) Hart

  from-sequence : (f : Fault) → sequence_fault w new ≡ Some f → fault_number f ≡ 2
  from-sequence = tested (not (new.id.seq == expected w new)) (Sequence (expected w new))

  -- the first faults of the log read as those of the window
  same-hart : hart_fault e ≡ option_map to-log (hart_fault new)
  same-hart = told to-log (nat_lt 15 h) Hart refl

  same-sequence : sequence_fault es e ≡ option_map to-log (sequence_fault w new)
  same-sequence = sequence limit log x fst stands.formed stands.pairs (pair run log x stands next)
      stands.few (stands.within h) (kept run log x stands next) (room run log x stands next)

  same-dependency : DependsOnValues forgotten n e → dependency_fault es e ≡ option_map to-log (dependency_fault w new)
  same-dependency good = dependency limit log x fst stands.formed stands.pairs (pair run log x stands next)
      stands.few (stands.within h) (kept run log x stands next) (room run log x stands next)
      (depends-well run log x stands next good)

  same-zero : zero_fault e ≡ option_map to-log (zero_fault new)
  same-zero = told to-log (is_store e.op && (e.wrote == 0)) VersionZero refl

  same-taken : IsUnwritten forgotten e → taken_fault es e ≡ option_map to-log (taken_fault w new)
  same-taken free = taken limit log x fst stands.formed stands.pairs (pair run log x stands next)
      stands.few (stands.within h) (kept run log x stands next) (room run log x stands next)
      (untaken run log x stands next free)

  same-reservation : reservation_fault es e ≡ option_map to-log (reservation_fault w new)
  same-reservation = reservation limit log x fst stands.formed stands.pairs (pair run log x stands next)
      stands.few (stands.within h) (kept run log x stands next) (room run log x stands next)
      (seq-is run log x stands next)

  same-full : full_fault limit es e ≡ option_map to-log (full_fault 4096 w new)
  same-full = full-none limit log x fst stands.formed stands.pairs (pair run log x stands next)
      stands.few (stands.within h) (kept run log x stands next) (room run log x stands next)
      (below run log x stands next) (seq-is run log x stands next)

  same-source : HasSource forgotten x → source_fault log x ≡ option_map to-log (source_fault wl (in_window run x))
  same-source own = source limit log x fst stands.formed stands.pairs (pair run log x stands next)
      stands.few (stands.within h) (kept run log x stands next) (room run log x stands next)
      (old-source run log x stands next own)

  -- what doesn't fit is a fault over the log
  bad-dependency : DependsBadly forgotten n e → dependency_fault es e ≡ Some Dependency
  bad-dependency bad = ap (λ (b : Bool). fault_if b Dependency) (list_any-from_Any (is_bad_dependency es e) e.deps
      (Any-from_contains (λ d. is_bad_dependency es e d ≡ true) e.deps bad.dep bad.of_event is))
    where
      is : is_bad_dependency es e bad.dep ≡ true
      is = let y = named-gone run log x stands next bad.dep bad.before in
          y.2 ∙ bad.bad y.0 y.1 y.3

  -- the store of a version that was written before is one of the log
  store-of : (by : IsWrittenBy forgotten e.word e.wrote) →
      (z : Entry) × Contains log z × (z.event.id.seq < fst z.event.id.hart) × (bare z ≡ by.store)
  store-of by = gone-entry run log x stands next by.store by.of_gone

  was-taken : (store : IsStore e) (by : IsWrittenBy forgotten e.word e.wrote) →
      taken_fault es e ≡ Some (VersionTaken (store-of by).0.event.id)
  was-taken store by =
      ap (λ (b : Bool). if b then option_map (λ (y : Event). VersionTaken y.id)
      (writer es e.word e.wrote) else None) store
      ∙ ap (option_map (λ (y : Event). VersionTaken y.id)) writer-is-it
    where
      z : Entry
      z = (store-of by).0

      same : bare z ≡ by.store
      same = (store-of by).3

      there : Contains es z.event
      there = Contains-mapped (λ (y : Entry). y.event) log z (store-of by).1

      word : z.event.word ≡ e.word
      word = ap (λ (y : Entry). y.event.word) same ∙ by.word

      wrote : z.event.wrote ≡ e.wrote
      wrote = ap (λ (y : Entry). y.event.wrote) same ∙ by.wrote

      writer-is-it : writer es e.word e.wrote ≡ Some z.event
      writer-is-it = ap (λ (k : ℕ). writer es k e.wrote) (sym word)
          ∙ ap (λ (k : ℕ). writer es z.event.word k) (sym wrote)
          ∙ known.written z.event there (subst (λ (y : Entry). IsStore y.event) (sym same) by.is_store)

  other-source : (y : Entry) → Contains forgotten y → y.event.id.hart ≡ h → y.source ≢ x.source →
      source_fault log x ≡ Some OtherSource
  other-source y c same apart =
      let z = gone-entry run log x stands next y c in
      let hart' : z.0.event.id.hart ≡ h = ap (λ (w' : Entry). w'.event.id.hart) z.3 ∙ same in
      let apart' : z.0.source ≢ x.source = λ is. apart (sym (ap (λ (w' : Entry). w'.source) z.3) ∙ is) in
      ap (λ (b : Bool). fault_if b OtherSource) (list_any-from_Any is_other log
      (Any-from_contains (λ y'. is_other y' ≡ true) log z.0 z.1
      (rw (eq-eqb z.0.event.id.hart h hart', ne_eqb z.0.source x.source apart') refl)))

  too-many : 8 < length e.deps → deps_fault e ≡ Some TooManyDeps
  too-many more = ap (λ (b : Bool). fault_if b TooManyDeps) (lt-ltb 8 (length e.deps) more)

  -- a fault over the log has a number of 32 bits, where it has one
  pub has-number : (f : Fault) → fault_within limit log x ≡ Some f → HasNumber f
  has-number = lowest-has HasNumber (hart_fault e ∷ sequence_fault es e ∷ dependency_fault es e ∷ zero_fault e
      ∷ taken_fault es e ∷ reservation_fault es e ∷ full_fault limit es e ∷ source_fault log x ∷ deps_fault e ∷ []) (
        is-tested HasNumber (nat_lt 15 h) Hart tt,
        (
          is-tested HasNumber (not (e.id.seq == expected es e)) (Sequence (expected es e))
              (let low = below run log x stands next in let seq = seq-is run log x stands next in
              omega (arith, low, seq)),
          (
            is-tested HasNumber (list_any (is_bad_dependency es e) e.deps) Dependency tt,
            (
              is-tested HasNumber (is_store e.op && (e.wrote == 0)) VersionZero tt,
              (
                taken-number,
                (
                  is-tested HasNumber (is_sc e.op && not (is_reserved es h)) NoReservation tt,
                  (
                    is-tested HasNumber (nat_le limit (expected es e)) Full tt,
                    (
                      is-tested HasNumber (list_any is_other log) OtherSource tt,
                      (is-tested HasNumber (nat_lt 8 (length e.deps)) TooManyDeps tt, tt),
                    ),
                  ),
                ),
              ),
            ),
          ),
        ),
      )
    where
      taken-number : (f : Fault) → taken_fault es e ≡ Some f → HasNumber f
      taken-number f is = go (is_store e.op) refl
        where
          by : (o : Option Event) → writer es e.word e.wrote ≡ o →
              option_map (λ (y : Event). VersionTaken y.id) o ≡ Some f → HasNumber f
          by None at none = absurd (none-some f none)
          by (Some y) at some =
              let found = writer-is es e.word e.wrote y at in
              let low = known.below y found.of_log in
              let few = known.few y.id.hart in
              subst HasNumber (same_Some (VersionTaken y.id) f some) (omega (arith, low, few))

          go : (b : Bool) → is_store e.op ≡ b → HasNumber f
          go true at = by (writer es e.word e.wrote) refl (sym (ap (λ (b : Bool). if b then
              option_map (λ (y : Event). VersionTaken y.id) (writer es e.word e.wrote) else None) at) ∙ is)
          go false at = absurd (none-some f (sym (ap (λ (b : Bool). if b then
              option_map (λ (y : Event). VersionTaken y.id) (writer es e.word e.wrote) else None) at) ∙ is))

  abbrev found : Option Fault
  found = fault_of run.book.log (in_window run x)

  found-is : fault_of wl (in_window run x) ≡ found
  found-is = ap (λ (xs : List Entry). fault_of xs (in_window run x)) (sym stands.window_is)

  -- the first fault over the log is that of the window, or the one that is told by what was forgotten
  abbrev IsFirst : ℕ → Fault → Type 0
  IsFirst k g =
      ((f : Fault) × (found ≡ Some f) × (fault_number f < k) × (fault_within limit log x ≡ Some (to-log f)))
      ⊎ ((fault_within limit log x ≡ Some g) × ((f : Fault) → found ≡ Some f → k ≤ fault_number f))

  over-window : (k : ℕ) (g : Fault) →
      ((f : Fault) × (fault_of wl (in_window run x) ≡ Some f) × (fault_number f < k)
      × (fault_within limit log x ≡ Some (to-log f)))
      ⊎ ((fault_within limit log x ≡ Some g) × ((f : Fault) → fault_of wl (in_window run x) ≡ Some f
      → k ≤ fault_number f)) →
      IsFirst k g
  over-window k g (inl (f, is, less, whole)) = inl (f, sym found-is ∙ is, less, whole)
  over-window k g (inr (whole, most)) = inr (whole, (λ f is. most f (found-is ∙ is)))

  first-depends : DependsBadly forgotten n e → IsFirst 3 Dependency
  first-depends bad = over-window 3 Dependency (first-told to-log (hart_fault e ∷ sequence_fault es e ∷ [])
      (hart_fault new ∷ sequence_fault w new ∷ []) (same-hart, (same-sequence, tt))
      (from-hart, (from-sequence, tt)) 3 refl
      (dependency_fault es e) _ (dependency_fault w new) _ from-three Dependency (bad-dependency bad))

  first-taken : DependsOnValues forgotten n e → IsStore e → (by : IsWrittenBy forgotten e.word e.wrote) →
      IsFirst 5 (VersionTaken (store-of by).0.event.id)
  first-taken good store by = over-window 5 (VersionTaken (store-of by).0.event.id) (first-told to-log
      (hart_fault e ∷ sequence_fault es e ∷ dependency_fault es e ∷ zero_fault e ∷ [])
      (hart_fault new ∷ sequence_fault w new ∷ dependency_fault w new ∷ zero_fault new ∷ [])
      (same-hart, (same-sequence, (same-dependency good, (same-zero, tt))))
      (from-hart, (from-sequence, (from-three.0, (from-three.1.0, tt)))) 5 refl
      (taken_fault es e) _ (taken_fault w new) _ from-five (VersionTaken (store-of by).0.event.id) (was-taken store by))

  first-source : DependsOnValues forgotten n e → IsUnwritten forgotten e → (y : Entry) → Contains forgotten y →
      y.event.id.hart ≡ h → y.source ≢ x.source → IsFirst 8 OtherSource
  first-source good free y c same apart = over-window 8 OtherSource (first-told to-log
      (hart_fault e ∷ sequence_fault es e ∷ dependency_fault es e ∷ zero_fault e ∷ taken_fault es e
      ∷ reservation_fault es e ∷ full_fault limit es e ∷ [])
      (hart_fault new ∷ sequence_fault w new ∷ dependency_fault w new ∷ zero_fault new ∷ taken_fault w new
      ∷ reservation_fault w new ∷ full_fault 4096 w new ∷ []) (
        same-hart,
        (
          same-sequence,
          (
            same-dependency good,
            (
              same-zero,
              (
                same-taken free,
                (same-reservation, (same-full, tt)),
              ),
            ),
          ),
        ),
      ) (
        from-hart,
        (
          from-sequence,
          (from-three.0, (from-three.1.0, (from-five.0, (from-five.1.0, (from-five.1.1.0, tt))))),
        ),
      )
      8 refl (source_fault log x) _ (source_fault wl (in_window run x)) _ from-eight OtherSource
      (other-source y c same apart))

  first-many : DependsOnValues forgotten n e → IsUnwritten forgotten e → HasSource forgotten x → 8 < length e.deps →
      IsFirst 9 TooManyDeps
  first-many good free own more = over-window 9 TooManyDeps (first-told to-log
      (hart_fault e ∷ sequence_fault es e ∷ dependency_fault es e ∷ zero_fault e ∷ taken_fault es e
      ∷ reservation_fault es e ∷ full_fault limit es e ∷ source_fault log x ∷ [])
      (hart_fault new ∷ sequence_fault w new ∷ dependency_fault w new ∷ zero_fault new ∷ taken_fault w new
      ∷ reservation_fault w new ∷ full_fault 4096 w new ∷ source_fault wl (in_window run x) ∷ []) (
        same-hart,
        (
          same-sequence,
          (
            same-dependency good,
            (
              same-zero,
              (
                same-taken free,
                (same-reservation, (same-full, (same-source own, tt))),
              ),
            ),
          ),
        ),
      ) (
        from-hart,
        (
          from-sequence,
          (
            from-three.0,
            (
              from-three.1.0,
              (
                from-five.0,
                (
                  from-five.1.0,
                  (
                    from-five.1.1.0,
                    (from-eight.0, tt),
                  ),
                ),
              ),
            ),
          ),
        ),
      ) 9 refl (deps_fault e) _ (deps_fault new) _ from-nine TooManyDeps (too-many more))

  module _ (after : Endless) (answer : Answer) (stopped : HasStopped run after) where
    -- the window's fault comes first
    pub by-window : (f : Fault) → fault_within limit log x ≡ Some (to-log f) →
        IsToldInFull run.firsts h f answer → IsAnswered run after log x answer
    by-window f whole in-full = subst (IsAnswered run after log x) (sym (in-full (has-number (to-log f) whole)))
        (whole, stopped)

    -- and else the one that is told by what was forgotten
    last : (m : Misfit) → ((f : Fault) → found ≡ Some f → misfit_number m ≤ fault_number f) →
        IsExplained run.firsts h m found answer → answer ≡ misfit_answer m
    last m most explained = go found refl
      where
        go : (o : Option Fault) → found ≡ o → answer ≡ misfit_answer m
        go None at = subst (λ (o : Option Fault). IsExplained run.firsts h m o answer) at explained
        go (Some f) at =
            (subst (λ (o : Option Fault). IsExplained run.firsts h m o answer) at explained).1 (most f at)

    -- an entry that doesn't fit what was forgotten is answered as its first fault asks
    pub misfit-answered : (m : Misfit) → IsMisfit forgotten n x m →
        IsExplained run.firsts h m found answer → IsAnswered run after log x answer
    misfit-answered misfit.Depends bad explained = go (first-depends bad)
      where
        go : IsFirst 3 Dependency → IsAnswered run after log x answer
        go (inl (f, is, less, whole)) =
            by-window f whole ((subst (λ (o : Option Fault). IsExplained run.firsts h misfit.Depends o answer) is
            explained).0 less)
        go (inr (whole, most)) = subst (IsAnswered run after log x)
            (sym (last misfit.Depends most explained)) (whole, stopped)
    misfit-answered misfit.Taken (good, store, by) explained = go (first-taken good store by)
      where
        go : IsFirst 5 (VersionTaken (store-of by).0.event.id) → IsAnswered run after log x answer
        go (inl (f, is, less, whole)) =
            by-window f whole ((subst (λ (o : Option Fault). IsExplained run.firsts h misfit.Taken o answer) is
            explained).0 less)
        go (inr (whole, most)) = let there = store-of by in
            subst (IsAnswered run after log x) (sym (last misfit.Taken most explained)) (
              record {
                store = there.0;
                of_log = there.1;
                forgotten = there.2;
                fault = whole;
              },
              stopped,
            )
    misfit-answered misfit.OtherSource (good, free, (y, c, same, apart)) explained =
        go (first-source good free y c same apart)
      where
        go : IsFirst 8 OtherSource → IsAnswered run after log x answer
        go (inl (f, is, less, whole)) =
            by-window f whole ((subst
            (λ (o : Option Fault). IsExplained run.firsts h misfit.OtherSource o answer) is
            explained).0 less)
        go (inr (whole, most)) =
            subst (IsAnswered run after log x) (sym (last misfit.OtherSource most explained)) (whole, stopped)
    misfit-answered misfit.TooManyDeps (good, free, own, more) explained = go (first-many good free own more)
      where
        go : IsFirst 9 TooManyDeps → IsAnswered run after log x answer
        go (inl (f, is, less, whole)) =
            by-window f whole ((subst
            (λ (o : Option Fault). IsExplained run.firsts h misfit.TooManyDeps o answer) is
            explained).0 less)
        go (inr (whole, most)) =
            subst (IsAnswered run after log x) (sym (last misfit.TooManyDeps most explained)) (whole, stopped)
