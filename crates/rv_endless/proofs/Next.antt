-- What is known of the next entry of a hart, over a log for which a run stands.
use Rattle.rv_cut.specs.Cuts.{first_of}
use Rattle.rv_cut.specs.Exclusives.{IsExclusiveOf, IsLastExclusive}
use Rattle.rv_endless.specs.Exclusives.{IsLastOf}
use Rattle.rv_endless.specs.Runs.{HasLrForgotten, IsNext, StandsFor, bare, in_window, limit}
use Rattle.rv_endless.specs.declared.exclusives.Exclusive.{Exclusive}
use Rattle.rv_endless.specs.declared.run.Endless.{Endless}
use Rattle.rv_event.proofs.Indexed.{IndexedWithin, indexed_within}
use Rattle.rv_event.proofs.Names.{Contains-map, Contains-mapped, named-is}
use Rattle.rv_event.specs.Contexts.{is_bad_on}
use Rattle.rv_event.specs.Faults.{is_bad_dependency, fault_of, fault_within, is_lr}
use Rattle.rv_event.specs.Log.{Between, events, named, of_hart}
use Rattle.rv_event.specs.Operations.{IsStore, is_exclusive}
use Rattle.rv_event.specs.Relations.{Paired}
use Rattle.rv_event.specs.declared.event.Dep.{Dep}
use Rattle.rv_event.specs.declared.event.Entry.{Entry}
use Rattle.rv_event.specs.declared.event.Event.{Event}
use Rattle.rv_event.specs.declared.event.Id.{Id}
use Rattle.rv_event.specs.declared.fault.Fault.{Fault}
use Rattle.rv_past.specs.Facts.{DependsOnValues, Fits, HasSource, IsUnwritten, named_by}
use Rattle.rv_settle.proofs.Faulted.{fault-same}
use Rattle.rv_settle.specs.Fitting.{DependsWell, FitsPast, HasOldSource, IsUntaken, in_full}
use Rattle.rv_settle.proofs.Windows.{onto-window}
use Rattle.rv_settle.specs.Windows.{IsKept, KeepsPair}
use Rattle.std.proofs.Common.{[], refl, ℕ, ◌≡◌, ◌∙◌, ◌<◌, ◌≤◌, ◌+◌, Contains, IsFalse, IsTrue, List, None, Option, Some}
use Rattle.std.proofs.Common.{ap, arith, inl, inr, length, option_map, slice_index_or, subst, sym}
use Rattle.std.proofs.lemmas.Bool.{cases_lt, false≢true}
use Rattle.std.proofs.lemmas.List.Elements.{All-contains}
use Rattle.std.proofs.lemmas.Option.{same_Some}

module _ (run : Endless) (log : List Entry) (x : Entry) (stands : StandsFor run log) (next : IsNext run x) where
  abbrev pub first : ℕ → ℕ
  first = first_of run.firsts

  abbrev pub hart : ℕ
  hart = x.event.id.hart

  abbrev pub full : Fault → Fault
  full = in_full first hart

  abbrev pub gone : List Entry
  gone = stands.gone.0

  -- its number is that of its hart's events
  pub seq-is : x.event.id.seq ≡ length (of_hart hart (events log))
  seq-is = next.seq ∙ stands.counts_are hart

  -- it is kept
  pub kept : IsKept first x.event
  kept = let within = stands.within hart in let seq = seq-is in omega (arith, within, seq)

  pub room : x.event.id.seq < first hart + 4096
  room = let less = next.within.room in let seq = next.seq in omega (arith, less, seq)

  pub below : x.event.id.seq < limit
  below = let less = next.within.numbers in let seq = next.seq in omega (arith, less, seq)

  known : IndexedWithin limit (events log)
  known = indexed_within limit log stands.formed

  -- a forgotten event of the log is that of an entry that was forgotten
  pub entry-gone : (p : Event) → Contains (events log) p → p.id.seq < first p.id.hart →
      (y : Entry) × Contains gone y × (y.event ≡ record p { deps = [] })
  entry-gone p c low =
      let z = Contains-map (λ (z : Entry). z.event) log p c in (
        bare z.0,
        (stands.gone.1.each (bare z.0)).1
            (z.0, z.1, subst (λ (e : Event). e.id.seq < first e.id.hart) (sym z.2) low, refl),
        ap (λ (e : Event). record e { deps = [] }) z.2,
      )

  -- and the other way round
  pub gone-entry : (y : Entry) → Contains gone y →
      (z : Entry) × Contains log z × (z.event.id.seq < first z.event.id.hart) × (bare z ≡ y)
  gone-entry y c = (stands.gone.1.each y).0 c

  -- a dependency on what was forgotten is as bad as the entry that was tells
  pub named-gone : (d : Dep) → d.seq < first hart → (y : Entry) × Contains gone y
      × (is_bad_dependency (events log) x.event d ≡ is_bad_on x.event d (Some y.event))
      × (y.event.id ≡ named_by x.event d)
  named-gone d low =
      let within = stands.within hart in
      let found = known.filled (named_by x.event d) (omega (arith, low, within)) in
      let there = named-is (events log) (named_by x.event d) found.0 found.1 in
      let y = entry-gone found.0 there.0 (subst (λ (i : Id). i.seq < first i.hart) there.1 low) in (
        y.0,
        y.1,
        ap (is_bad_on x.event d) {x = named (events log) (named_by x.event d)} found.1
            ∙ ap (λ (e : Event). is_bad_on x.event d (Some e)) {x = record found.0 { deps = [] }} (sym y.2),
        ap (λ (e : Event). e.id) y.2 ∙ sym there.1,
      )

  pub depends-well : DependsOnValues gone (first hart) x.event → DependsWell (events log) first x.event
  depends-well good d of low =
      let y = named-gone d low in y.2 ∙ good d y.0 of low y.1 y.3

  pub untaken : IsUnwritten gone x.event → IsUntaken (events log) first x.event
  untaken free p c low store-p store word same =
      let y = entry-gone p c low in
      free store (record {
        store = y.0;
        of_gone = y.1;
        is_store = subst (λ (e : Event). IsStore e) (sym y.2) store-p;
        word = ap (λ (e : Event). e.word) y.2 ∙ word;
        wrote = ap (λ (e : Event). e.wrote) y.2 ∙ same;
      })

  pub old-source : HasSource gone x → HasOldSource log first x
  old-source own y c low same = own (bare y) ((stands.gone.1.each (bare y)).1 (y, c, low, refl)) same

  -- an entry that fits what was forgotten fits the past
  pub fits-past : Fits gone (first hart) x → FitsPast limit log first x
  fits-past fits = record {
    kept = kept;
    below = below;
    depends = depends-well fits.depends;
    free = untaken fits.free;
    source = old-source fits.source;
    few = fits.few;
  }

  -- an LR that would be paired with it is kept
  pub lr-kept : (all : List Event) → ((m : Event) → Contains (events log) m → Contains all m) → (lr : Event) →
      Contains (events log) lr → Paired all lr x.event → IsKept first lr
  lr-kept all into lr c paired = elim (cases_lt lr.id.seq (first lr.id.hart)) [
    | inl low ↦ absurd (forgotten-lr low)
    | inr least ↦ least
  ]
    where
      own : lr.id.hart ≡ hart
      own = paired.earlier.hart

      -- nothing that opens or closes a reservation stands between them
      none-between : (m : Event) → Contains (events log) m → m.id.hart ≡ hart → lr.id.seq < m.id.seq →
          m.id.seq < x.event.id.seq → IsTrue (is_exclusive m.op) → ⊥
      none-between m there own-m later before exclusive =
          let between : Between lr m x.event = record {
            after = record { hart = own ∙ sym own-m; seq = later };
            before = record { hart = own-m; seq = before };
          } in
          false≢true (sym (All-contains (λ e. Between lr e x.event → IsFalse (is_exclusive e.op)) all m
          paired.none_between (into m there) between) ∙ exclusive)

      low-next : (m : Event) → Contains (events log) m → m.id.hart ≡ hart → m.id.seq < x.event.id.seq
      low-next m there own-m =
          let less = known.below m there in
          let count = ap (λ (h : ℕ). length (of_hart h (events log))) own-m in
          let next-seq = seq-is in
          omega (arith, less, count, next-seq)

      forgotten-lr : lr.id.seq < first lr.id.hart → ⊥
      forgotten-lr low = go (slice_index_or run.exclusives hart None) refl (stands.gone.1.exclusives hart)
        where
          y : (y : Entry) × Contains gone y × (y.event ≡ record lr { deps = [] })
          y = entry-gone lr c low

          is-own : IsExclusiveOf (events gone) hart y.0.event
          is-own = record {
            of_log = Contains-mapped (λ (z : Entry). z.event) gone y.0 y.1;
            own = ap (λ (e : Event). e.id.hart) y.2 ∙ own;
            exclusive = ap (λ (e : Event). is_exclusive e.op) y.2 ∙ ap is_exclusive paired.is_lr;
          }

          -- none of the window stands between them
          none-kept : IsLastExclusive (events run.book.log) hart None
          none-kept e is =
              let from = onto-window first log e (subst (λ (xs : List Entry). Contains (events xs) e) stands.window_is
              is.of_log) in
              let own-a : from.0.id.hart ≡ hart = ap (λ (a : Event). a.id.hart) from.3 ∙ is.own in
              let high = from.2 in
              let base = ap first own-a in
              let base-lr = ap first own in
              none-between from.0 from.1 own-a (omega (arith, low, high, base, base-lr))
              (low-next from.0 from.1 own-a) (ap (λ (a : Event). is_exclusive a.op) from.3 ∙ is.exclusive)

          go : (o : Option Exclusive) → slice_index_or run.exclusives hart None ≡ o → IsLastOf (events gone) hart o → ⊥
          go None is none = none y.0.event is-own
          go (Some l) is last =
              let most : lr.id.seq ≤ last.event.id.seq =
              subst (λ (e : Event). e.id.seq ≤ last.event.id.seq) y.2 (last.last.1 y.0.event is-own) in
              let v = Contains-map (λ (z : Entry). z.event) gone last.event last.last.0.of_log in
              let z = gone-entry v.0 v.1 in
              let same : record z.0.event { deps = [] } ≡ last.event =
              ap (λ (u : Entry). u.event) z.3 ∙ v.2 in
              let there : Contains (events log) z.0.event = Contains-mapped (λ (u : Entry). u.event) log z.0 z.1 in
              let own-z : z.0.event.id.hart ≡ hart = ap (λ (e : Event). e.id.hart) same ∙ last.last.0.own in
              let seq-z = ap (λ (e : Event). e.id.seq) same in
              elim (cases_lt lr.id.seq z.0.event.id.seq) [
                | inl later ↦ none-between z.0.event there own-z later (low-next z.0.event there own-z)
                    (ap (λ (e : Event). is_exclusive e.op) same ∙ last.last.0.exclusive)
                | inr lower ↦ (
                    let seq : z.0.event.id.seq ≡ lr.id.seq = omega (arith, most, lower, seq-z) in
                    let id : z.0.event.id ≡ lr.id = grind (arith, own, own-z, seq) in
                    let event : z.0.event ≡ lr = same_Some z.0.event lr (sym (known.own z.0.event there)
                    ∙ ap (named (events log)) id ∙ known.own lr c) in
                    let lr-is : IsTrue l.is_lr = sym last.lr ∙ ap (λ (e : Event). is_lr e.op) (sym same)
                    ∙ ap (λ (e : Event). is_lr e.op) event ∙ ap is_lr paired.is_lr in
                    let left : HasLrForgotten run x.event.id.hart =
                    record { last = l; known = is; lr = lr-is; none = none-kept } in
                    next.within.pair paired.is_sc next.seq left)
              ]

  pub pair : KeepsPair first (events log) x.event
  pair lr c paired = lr-kept (events log) (λ m there. there) lr c paired

  -- and has the window's fault
  pub fault-fits : Fits gone (first hart) x →
      fault_within limit log x ≡ option_map full (fault_of run.book.log (in_window run x))
  fault-fits fits =
      fault-same limit log x first stands.formed stands.pairs pair stands.few (stands.within hart) kept room
      (fits-past fits)
      ∙ ap (λ (xs : List Entry). option_map full (fault_of xs (in_window run x))) (sym stands.window_is)
