-- An entry that fits what was forgotten, and has no fault over the window.
use Rattle.rv_book.specs.Booked.{SomeLawful}
use Rattle.rv_cut.specs.Cuts.{first_of}
use Rattle.rv_endless.proofs.Before.{window-more}
use Rattle.rv_endless.proofs.Next.{kept, lr-kept, pair, room, seq-is}
use Rattle.rv_endless.specs.Runs.{AreForgotten, IsForbidden, IsNext, StandsFor, in_window, limit}
use Rattle.rv_endless.specs.Steps.{IsPastOf, Joins, counted_with}
use Rattle.rv_endless.specs.declared.run.Endless.{Endless}
use Rattle.rv_event.proofs.Common.{map-append}
use Rattle.rv_event.proofs.Indexed.{IndexedWithin, indexed_within}
use Rattle.rv_event.proofs.Pushed.{split_push}
use Rattle.rv_event.specs.Faults.{fault_within}
use Rattle.rv_event.specs.Log.{events, of_hart}
use Rattle.rv_event.specs.Orders.{Lawful}
use Rattle.rv_event.specs.WellFormed.{WellFormedWithin}
use Rattle.rv_event.specs.declared.event.Entry.{Entry}
use Rattle.rv_event.specs.declared.event.Event.{Event}
use Rattle.rv_event.specs.declared.event.Id.{Id}
use Rattle.rv_event.specs.declared.event.Op.TheVariants.{Carrier}
use Rattle.rv_event.specs.declared.memory_model.MemoryModel.{MemoryModel}
use Rattle.rv_settle.proofs.CutStays.{cut-stays-one}
use Rattle.rv_settle.proofs.Faulted.{counted}
use Rattle.rv_settle.proofs.WindowDecides.{window-decides}
use Rattle.rv_settle.specs.Cuts.{IsCut}
use Rattle.rv_settle.specs.Past.{ComesBeforePast}
use Rattle.rv_settle.specs.Windows.{IsBelow, IsKept, KeepsFew, KeepsPairs, window}
use Rattle.std.proofs.Common.{if◌then◌else◌, ℕ, ◌≡◌, ◌≢◌, ◌∙◌, ◌<◌, ◌≤◌, ◌+◌, ◌++◌, ◌∷◌, ◌==◌, ◌↔◌}
use Rattle.std.proofs.Common.{[], All, Bool, Contains, IsTrue, List, None, ap, arith}
use Rattle.std.proofs.Common.{eq-eqb, inl, inr, length, refl, rules, subst, sym}
use Rattle.std.proofs.lemmas.Bool.{cases_eq, ne_eqb}
use Rattle.std.proofs.lemmas.Grind.{get_or-set_at}
use Rattle.std.proofs.lemmas.List.{get_or-set_other, length-append, length-set}
use Rattle.std.proofs.lemmas.List.Elements.{All-push, Contains-append_left, Contains-push_cases}
use Rattle.std.proofs.lemmas.List.Elements.{filter-append}
use Rattle.std.specs.Prelude.{slice_index_or, slice_set}
use Rattle.std.proofs.Common.{◌⊎◌, IsFalse}
use Rattle.rv_event.proofs.Growing.{All-from_contains}
use Rattle.rv_event.specs.Log.{Between, Earlier}
use Rattle.rv_event.specs.Operations.{is_exclusive}
use Rattle.rv_event.specs.Relations.{Paired}
use Rattle.std.proofs.lemmas.List.Elements.{All-contains}

-- a well formed log stays so with an entry that has no fault
within-push : (most : ℕ) (log : List Entry) (x : Entry) → WellFormedWithin most log → fault_within most log x ≡ None →
    WellFormedWithin most (log ++ x ∷ [])
within-push most log x ok none before after y e = search (split_push, rules)

module _ (run : Endless) (log : List Entry) (x : Entry) (stands : StandsFor run log) (next : IsNext run x)
    (sound : fault_within limit log x ≡ None) where
  abbrev first : ℕ → ℕ
  first = first_of run.firsts

  abbrev h : ℕ
  h = x.event.id.hart

  abbrev more : List Entry
  more = log ++ x ∷ []

  grown : events more ≡ events log ++ x.event ∷ []
  grown = map-append (λ (y : Entry). y.event) log (x ∷ [])

  is-kept : IsKept first x.event
  is-kept = kept run log x stands next

  -- the log stays well formed
  formed : WellFormedWithin limit more
  formed = within-push limit log x stands.formed sound

  in-more : (m : Event) → Contains (events log) m → Contains (events more) m
  in-more m c = subst (λ (es : List Event). Contains es m) (sym grown)
      (Contains-append_left (events log) (x.event ∷ []) m c)

  old-or-new : (m : Event) → Contains (events more) m → Contains (events log) m ⊎ (x.event ≡ m)
  old-or-new m c = Contains-push_cases (events log) x.event m (subst (λ (es : List Event). Contains es m) grown c)

  known-log : IndexedWithin limit (events log)
  known-log = indexed_within limit log stands.formed

  -- what is earlier than an event with a number of the log, or than the new one, is of the log
  earlier-old : (m e : Event) → Contains (events more) m → Earlier m e → e.id.seq ≤ length (of_hart e.id.hart
      (events log)) → Contains (events log) m
  earlier-old m e c earlier most = elim (old-or-new m c) [
    | inl old ↦ old
    | inr same ↦ (
        let hart : h ≡ e.id.hart = ap (λ (z : Event). z.id.hart) same ∙ earlier.hart in
        let seq = ap (λ (z : Event). z.id.seq) same in
        let count = ap (λ (k : ℕ). length (of_hart k (events log))) hart in
        let next-seq = seq-is run log x stands next in
        let less = earlier.seq in
        absurd (omega (arith, seq, count, next-seq, less, most)))
  ]

  -- an SC that is kept is paired with an LR that is kept
  pairs : KeepsPairs first (events more)
  pairs sc c kept lr c-lr paired = elim (old-or-new sc c) [
    | inl old ↦ (
        let below = known-log.below sc old in
        stands.pairs sc old kept lr (earlier-old lr sc c-lr paired.earlier (omega (arith, below))) (record {
          is_lr = paired.is_lr;
          is_sc = paired.is_sc;
          earlier = paired.earlier;
          none_between = All-from_contains (λ m. Between lr m sc → IsFalse (is_exclusive m.op)) (events log)
              (λ m there. All-contains (λ m'. Between lr m' sc → IsFalse (is_exclusive m'.op)) (events more) m
              paired.none_between (in-more m there));
        }))
    | inr same ↦ (
        let there : Paired (events more) lr x.event =
        subst (λ (e : Event). Paired (events more) lr e) (sym same) paired in
        let next-seq = seq-is run log x stands next in
        lr-kept run log x stands next (events more) in-more lr
        (earlier-old lr x.event c-lr there.earlier (omega (arith, next-seq))) there)
  ]

  -- how many events each hart has with it
  own-more : (hart : ℕ) → of_hart hart (events more) ≡ of_hart hart (events log) ++ of_hart hart (x.event ∷ [])
  own-more hart = ap (of_hart hart) grown ∙ filter-append (λ (e : Event). hart == e.id.hart) (events log) (x.event ∷ [])

  count-own : length (of_hart h (events more)) ≡ length (of_hart h (events log)) + 1
  count-own = ap (λ (xs : List Event). length xs) (own-more h) ∙ length-append
      (of_hart h (events log)) (of_hart h (x.event ∷ []))
      ∙ ap (λ (k : ℕ). length (of_hart h (events log)) + k)
      (ap (λ (b : Bool). length (if b then x.event ∷ [] else [])) (eq-eqb h h refl))

  count-other : (hart : ℕ) → hart ≢ h → length (of_hart hart (events more)) ≡ length (of_hart hart (events log))
  count-other hart apart = ap (λ (xs : List Event). length xs) (own-more hart)
      ∙ length-append (of_hart hart (events log)) (of_hart hart (x.event ∷ []))
      ∙ ap (λ (k : ℕ). length (of_hart hart (events log)) + k)
      (ap (λ (b : Bool). length (if b then x.event ∷ [] else [])) (ne_eqb hart h apart)) ∙ omega arith

  few : KeepsFew first (events more)
  few hart = elim (cases_eq hart h) [
    | inl own ↦ subst (λ (k : ℕ). length (of_hart k (events more)) ≤ first k + 4096) (sym own)
        (let less = room run log x stands next in let seq = seq-is run log x stands next in
        omega (arith, count-own, less, seq))
    | inr apart ↦ (let same = count-other hart apart in let most = stands.few hart in omega (arith, same, most))
  ]

  -- it comes after its hart's others in the window
  last : length (of_hart h (events run.book.log)) ≤ (in_window run x).event.id.seq
  last =
      let seq = seq-is run log x stands next in
      let count = ap (λ (xs : List Entry). length (of_hart h (events xs))) stands.window_is
      ∙ counted limit log x first stands.formed stands.pairs (pair run log x stands next) stands.few
      (stands.within h) is-kept
      (room run log x stands next) in
      omega (arith, seq, count)

  pub joins : Joins run log x
  joins = record { formed = formed; kept = is-kept; last = last; pairs = pairs; few = few }

  pub is-past : IsPastOf run log stands.cut.past
  is-past = record { of_log = stands.cut.cut.of_log; below = stands.cut.below }

  plain : x.event.op ≢ Carrier → All (λ m. m.op ≢ Carrier) (events more)
  plain not = subst (λ (es : List Event). All (λ m. m.op ≢ Carrier) es) (sym grown)
      (All-push (λ m. m.op ≢ Carrier) (events log) x.event stands.plain not)

  whole : window first more ≡ run.book.log ++ in_window run x ∷ []
  whole = window-more first log x is-kept ∙ ap (λ (xs : List Entry). xs ++ in_window run x ∷ []) (sym stands.window_is)

  -- some order is lawful for the log with it exactly where it doesn't come before the past, and some is for the window
  decides : ((order : List Id) × Lawful run.book.model (events more) order)
      ↔ ((ComesBeforePast (events more) stands.cut.past x.event → ⊥)
      × ((order : List Id) × Lawful run.book.model (events (window first more)) order))
  decides = window-decides limit run.book.model log x run.active.items stands.cut.past first stands.lawful.0 formed
      (plain next.within.plain) pairs few next.within.active stands.cut.cut stands.cut.below is-kept stands.lawful.1

  -- an entry that comes before the past is forbidden
  pub forbidden-by-past : ComesBeforePast (events more) stands.cut.past x.event → IsForbidden run log x
  forbidden-by-past before = record { sound = sound; none = λ some. (decides.0 some).0 before }

  -- and so is one that the window forbids
  pub forbidden-by-window : (SomeLawful run.book.model (run.book.log ++ in_window run x ∷ []) → ⊥) →
      IsForbidden run log x
  forbidden-by-window none = record {
    sound = sound;
    none = λ some. none (subst (λ (xs : List Entry). SomeLawful run.book.model xs) whole (decides.0 some).1);
  }

  module _ (not : ComesBeforePast (events more) stands.cut.past x.event → ⊥)
      (some : SomeLawful run.book.model (run.book.log ++ in_window run x ∷ [])) (after : Endless)
      (log-is : after.book.log ≡ run.book.log ++ in_window run x ∷ []) (model-is : after.book.model ≡ run.book.model)
      (book-going : after.book.stopped ≡ run.book.stopped) where
    abbrev grown-run : Endless
    grown-run = counted_with run after h

    lawful : (order : List Id) × Lawful run.book.model (events more) order
    lawful = decides.1 (not, subst (λ (xs : List Entry). SomeLawful run.book.model xs) (sym whole) some)

    known : IndexedWithin limit (events log)
    known = indexed_within limit log stands.formed

    -- the entry is not of the past
    not-past : IsTrue (stands.cut.past x.event) → ⊥
    not-past is = let low = (stands.cut.below x.event (stands.cut.cut.of_log x.event is)).0 is in
        let high = is-kept in omega (arith, low, high)

    below-more : IsBelow (events more) stands.cut.past first
    below-more a c = elim (Contains-push_cases (events log) x.event a
        (subst (λ (es : List Event). Contains es a) grown c)) [
          | inl old ↦ stands.cut.below a old
          | inr same ↦ subst (λ (e : Event). IsTrue (stands.cut.past e) ↔ (e.id.seq < first e.id.hart)) same (
            (λ is. absurd (not-past is)),
            (λ low. absurd (let high = is-kept in omega (arith, low, high))),
          )
        ]

    cut-more : IsCut run.book.model (events more) run.active.items stands.cut.past
    cut-more = cut-stays-one limit run.book.model log x run.active.items stands.cut.past lawful.0 formed
        next.within.active stands.cut.cut lawful.1

    counts-more : (hart : ℕ) → slice_index_or (slice_set run.counts h (slice_index_or run.counts h 0 + 1)) hart 0
        ≡ length (of_hart hart (events more))
    counts-more hart = elim (cases_eq hart h) [
      | inl own ↦ (let long = stands.harts in let low = next.hart in let long' : h < length
          run.counts = omega (arith, long, low) in
          get_or-set_at run.counts h hart (slice_index_or run.counts h 0 + 1) 0 own long'
          ∙ ap (λ (k : ℕ). k + 1) (stands.counts_are h) ∙ sym count-own
          ∙ ap (λ (k : ℕ). length (of_hart k (events more))) (sym own))
      | inr apart ↦ get_or-set_other run.counts h hart (slice_index_or run.counts h 0 + 1) 0 apart
          ∙ stands.counts_are hart ∙ sym (count-other hart apart)
    ]

    numbers-more : (hart : ℕ) → length (of_hart hart (events more)) < limit
    numbers-more hart = elim (cases_eq hart h) [
      | inl own ↦ subst (λ (k : ℕ). length (of_hart k (events more)) < limit) (sym own)
          (let low = next.within.numbers in let count = stands.counts_are h in omega (arith, low, count, count-own))
      | inr apart ↦ (let few' = stands.numbers hart in let same = count-other hart apart in omega (arith, few', same))
    ]

    within-more : (hart : ℕ) → first hart ≤ length (of_hart hart (events more))
    within-more hart = elim (cases_eq hart h) [
      | inl own ↦ subst (λ (k : ℕ). first k ≤ length (of_hart k (events more))) (sym own)
          (let least = stands.within h in omega (arith, least, count-own))
      | inr apart ↦ (let least = stands.within hart in let same = count-other hart apart in omega (arith, least, same))
    ]

    forgotten : AreForgotten grown-run more stands.gone.0
    forgotten = record {
      each = λ y. (
        (λ c. let there = (stands.gone.1.each y).0 c in
            (there.0, Contains-append_left log (x ∷ []) there.0 there.1, there.2, there.3)),
        (λ from. elim (Contains-push_cases log x from.0 from.1) [
          | inl old ↦ (stands.gone.1.each y).1 (from.0, old, from.2, from.3)
          | inr same ↦ absurd (let low = subst (λ (z : Entry). z.event.id.seq < first
              z.event.id.hart) (sym same) from.2 in
              let high = is-kept in omega (arith, low, high))
        ]),
      );
      past = stands.gone.1.past;
      facts = stands.gone.1.facts;
      exclusives = stands.gone.1.exclusives;
    }

    -- the run stands for the log with the entry
    pub stands-more : StandsFor grown-run more
    stands-more = record {
      going = stands.going;
      book_going = book-going ∙ stands.book_going;
      formed = formed;
      plain = plain next.within.plain;
      lawful = (lawful.0, subst (λ (m : MemoryModel). Lawful m (events more) lawful.0) (sym model-is) lawful.1);
      window_is = log-is ∙ sym whole;
      harts = length-set run.counts h (slice_index_or run.counts h 0 + 1) ∙ stands.harts;
      counts_are = counts-more;
      numbers = numbers-more;
      within = within-more;
      few = few;
      pairs = pairs;
      cut = record {
        past = stands.cut.past;
        below = below-more;
        cut = subst (λ (m : MemoryModel). IsCut m (events more) run.active.items stands.cut.past)
            (sym model-is) cut-more;
      };
      gone = (stands.gone.0, forgotten);
    }
