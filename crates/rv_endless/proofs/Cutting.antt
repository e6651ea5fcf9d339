-- A run whose window was cut stands for the same log.
use Rattle.rv_cut.specs.Cuts.{IsCutOf, first_of, is_past}
use Rattle.rv_endless.proofs.Sources.{same-source, source-before}
use Rattle.rv_endless.specs.Exclusives.{AreLast}
use Rattle.rv_endless.specs.Forgetting.{AreFresh, HaveNumbers, IsBookOf, forgotten_of, restored}
use Rattle.rv_endless.specs.Runs.{IsForgottenOf, StandsFor, bare, limit}
use Rattle.rv_endless.specs.declared.run.Endless.{Endless}
use Rattle.rv_event.proofs.Beginnings.{numbered_within}
use Rattle.rv_event.proofs.Equal.{event_decides}
use Rattle.rv_event.proofs.Growing.{All-from_contains, Any-contains, Any-from_contains}
use Rattle.rv_event.proofs.Indexed.{IndexedWithin, SoundWithin, indexed_within, sound_from_none}
use Rattle.rv_event.proofs.Merged.{Contains-filter, Contains-unfilter}
use Rattle.rv_event.proofs.Names.{Contains-here, Contains-map, Contains-mapped}
use Rattle.rv_event.proofs.Pushed.{within-front}
use Rattle.rv_event.specs.Faults.{deps_fault, fault_within, source_fault}
use Rattle.rv_event.specs.Log.{events, of_hart}
use Rattle.rv_event.specs.Orders.{Lawful}
use Rattle.rv_event.specs.WellFormed.{WellFormed}
use Rattle.rv_event.specs.declared.event.Entry.{Entry}
use Rattle.rv_event.specs.declared.event.Event.{Event}
use Rattle.rv_event.specs.declared.event.Id.{Id}
use Rattle.rv_event.specs.declared.event.Op.TheVariants.{Carrier}
use Rattle.rv_event.specs.declared.memory_model.MemoryModel.{MemoryModel}
use Rattle.rv_past.specs.Facts.{AreFacts}
use Rattle.rv_past.specs.Gone.{AreGone}
use Rattle.rv_past.specs.declared.facts.Facts.{Facts}
use Rattle.rv_past.specs.declared.past.Past.{Past}
use Rattle.rv_settle.proofs.CutsCompose.{cuts-compose}
use Rattle.rv_settle.proofs.Counted.{CountsFrom, count-high, is_high, own-window}
use Rattle.rv_settle.proofs.Formed.{window-formed}
use Rattle.rv_settle.proofs.Pairs.{pairs-kept}
use Rattle.rv_settle.proofs.Nested.{below-both, pairs-both, window-twice}
use Rattle.rv_settle.specs.Cuts.{IsCut}
use Rattle.rv_settle.specs.Windows.{AreBoth, IsBelow, IsKept, KeepsPairs, LeavesLastOpen, both_firsts, renumbered}
use Rattle.rv_settle.specs.Windows.{window}
use Rattle.std.proofs.Common.{All, ℕ, ◌≡◌, ◌≢◌, ◌∙◌, ◌<◌, ◌≤◌, ◌+◌, ◌-◌, ◌++◌, ◌∷◌, ◌&&◌, ◌||◌, ◌⊎◌}
use Rattle.std.proofs.Common.{[], Bool, Contains, IsTrue, List, ap, arith, false, filter, inl, inr}
use Rattle.std.proofs.Common.{None, length, map, refl, subst, sym, true}
use Rattle.std.proofs.lemmas.Bool.{and_from, and_parts, cases_lt, le-leb, leb-true, lt-ltb}
use Rattle.std.proofs.lemmas.Bool.{ltb-true, or_cases}
use Rattle.std.proofs.lemmas.List.{length-map}
use Rattle.std.proofs.lemmas.List.Elements.{All-contains, Contains-append_cases}
use Rattle.std.proofs.lemmas.List.Elements.{Contains-append_left, Contains-append_right}
use Rattle.std.proofs.lemmas.List.Elements.{filter_passes}
use Rattle.std.proofs.lemmas.List.Folds.{Any-from_list_any, list_any-from_Any}
use Rattle.std.specs.List.{list_any}
use Rattle.std.specs.Prelude.{nat_le, nat_lt, slice_index_or}
use Rattle.rv_event.specs.contracts.event.EventPartialEq.TheImpl as event

-- a test that passes makes either pass
or-right : (a b : Bool) → b ≡ true → (a || b) ≡ true
or-right true b is = refl
or-right false b is = is

-- the event is one of the list
abbrev is-in : List Event → Event → Bool
is-in es e = list_any ((event.ghosts).eq e) es

in-from : (es : List Event) (e : Event) → Contains es e → IsTrue (is-in es e)
in-from es e c = list_any-from_Any ((event.ghosts).eq e) es
    (Any-from_contains (λ f. (event.ghosts).eq e f ≡ true) es e c ((event_decides e e).1 refl))

in-to : (es : List Event) (e : Event) → IsTrue (is-in es e) → Contains es e
in-to es e is =
    let found = Any-contains (λ f. (event.ghosts).eq e f ≡ true) es (Any-from_list_any ((event.ghosts).eq e) es is) in
    subst (λ (f : Event). Contains es f) (sym ((event_decides e found.0).0 found.2)) found.1

-- a run stands for its log whatever room there is for what is known
pub stands-with : (run : Endless) (log : List Entry) (stands : StandsFor run log) (past : Past) (facts : Facts) →
    AreGone (events stands.gone.0) past → AreFacts stands.gone.0 facts →
    StandsFor (record run { past = past; facts = facts }) log
stands-with run log stands past facts gone known = record {
  going = stands.going;
  book_going = stands.book_going;
  formed = stands.formed;
  plain = stands.plain;
  lawful = stands.lawful;
  window_is = stands.window_is;
  harts = stands.harts;
  counts_are = stands.counts_are;
  numbers = stands.numbers;
  within = stands.within;
  few = stands.few;
  pairs = stands.pairs;
  cut = record { past = stands.cut.past; below = stands.cut.below; cut = stands.cut.cut };
  gone = (
    stands.gone.0,
    record {
      each = stands.gone.1.each;
      past = gone;
      facts = known;
      exclusives = stands.gone.1.exclusives;
    },
  );
}

module _ (run : Endless) (log : List Entry) (stands : StandsFor run log) (patience : ℕ)
    (cut : List ℕ) (is-cut : IsCutOf run.book.model (events run.book.log) run.active.items patience cut) where
  abbrev f : ℕ → ℕ
  f = first_of run.firsts

  abbrev g : ℕ → ℕ
  g = first_of cut

  abbrev w : List Entry
  w = run.book.log

  known : IndexedWithin limit (events log)
  known = indexed_within limit log stands.formed

  -- an entry of the window is one of the log, as the window has it
  pub entry-of : (y : Entry) → Contains w y → (z : Entry) × Contains log z × IsKept f z.event
      × (record z { event = renumbered f z.event } ≡ y)
  entry-of y c =
      let there = subst (λ (xs : List Entry). Contains xs y) stands.window_is c in
      let from = Contains-map (λ (z : Entry). record z { event = renumbered f z.event })
      (filter (λ (z : Entry). nat_le (f z.event.id.hart) z.event.id.seq) log) y there in (
        from.0,
        Contains-unfilter (λ (z : Entry). nat_le (f z.event.id.hart) z.event.id.seq) log from.0 from.1,
        leb-true (f from.0.event.id.hart) from.0.event.id.seq
            (All-contains (λ (z : Entry). nat_le (f z.event.id.hart) z.event.id.seq ≡ true)
            (filter (λ (z : Entry). nat_le (f z.event.id.hart) z.event.id.seq) log) from.0
            (filter_passes (λ (z : Entry). nat_le (f z.event.id.hart) z.event.id.seq) log) from.1),
        from.2,
      )

  -- no event of the window is a carrier
  pub plain-window : All (λ m. m.op ≢ Carrier) (events w)
  plain-window = All-from_contains (λ m. m.op ≢ Carrier) (events w) (λ m c.
      let y = Contains-map (λ (v : Entry). v.event) w m c in
      let z = entry-of y.0 y.1 in
      subst (λ (e : Event). e.op ≢ Carrier) (ap (λ (v : Entry). v.event) z.3 ∙ y.2)
      (All-contains (λ m'. m'.op ≢ Carrier) (events log) z.0.event stands.plain
      (Contains-mapped (λ (v : Entry). v.event) log z.0 z.1)))

  -- and each that is kept is there
  pub entry-in : (z : Entry) → Contains log z → IsKept f z.event →
      Contains w (record z { event = renumbered f z.event })
  entry-in z c kept =
      subst (λ (xs : List Entry). Contains xs (record z { event = renumbered f z.event })) (sym stands.window_is)
      (Contains-mapped (λ (y : Entry). record y { event = renumbered f y.event })
      (filter (λ (y : Entry). nat_le (f y.event.id.hart) y.event.id.seq) log) z
      (Contains-filter (λ (y : Entry). nat_le (f y.event.id.hart) y.event.id.seq) log z c
      (le-leb (f z.event.id.hart) z.event.id.seq kept)))

  -- its number in the log comes back
  pub restored-is : (z : Entry) → IsKept f z.event →
      restored run.firsts (record z { event = renumbered f z.event }) ≡ bare z
  restored-is z kept =
      let seq : (z.event.id.seq - f z.event.id.hart) + f z.event.id.hart ≡ z.event.id.seq = omega (arith, kept) in
      ap (λ (k : ℕ). record z
      { event = record z.event { id = record { hart = z.event.id.hart; seq = k }; deps = [] } }) seq

  -- numbers in the log are of 32 bits
  pub numbers : HaveNumbers run.firsts w
  numbers y c =
      let from = entry-of y c in
      let low = known.below from.0.event (Contains-mapped (λ (z : Entry). z.event) log from.0 from.1) in
      let few = stands.numbers from.0.event.id.hart in
      let kept = from.2 in
      subst (λ (v : Entry). v.event.id.seq + f v.event.id.hart < limit) from.3 (omega (arith, low, few, kept))

  -- each entry of the window may be noted after what was forgotten and those before it
  pub fresh : WellFormed w → AreFresh run.firsts stands.gone.0 w
  fresh formed before after y is = record {
    hart = subst (λ (v : Entry). v.event.id.hart < 16) from.3
        (known.harts from.0.event (Contains-mapped (λ (z : Entry). z.event) log from.0 from.1));
    new = λ v c same. elim (Contains-append_cases stands.gone.0 (map (restored run.firsts) before) v c) [
      | inl old ↦ forgotten-apart v old same
      | inr earlier ↦ window-apart v earlier same
    ];
    source = λ v c same. elim (Contains-append_cases stands.gone.0 (map (restored run.firsts) before) v c) [
      | inl old ↦ forgotten-source v old same
      | inr earlier ↦ window-source v earlier same
    ];
  }
    where
      there : Contains w y
      there = subst (λ (xs : List Entry). Contains xs y) (sym is)
          (Contains-append_right before (y ∷ after) y (Contains-here y after y refl))

      from : (z : Entry) × Contains log z × IsKept f z.event × (record z { event = renumbered f z.event } ≡ y)
      from = entry-of y there

      sound : fault_within 4096 before y ≡ None
      sound = formed before after y is

      known-before : IndexedWithin 4096 (events before)
      known-before = indexed_within 4096 before
          (within-front 4096 before (y ∷ after) (subst (λ (xs : List Entry). WellFormed xs) is formed))

      sound-y : SoundWithin 4096 (events before) y.event
      sound-y = sound_from_none (events before) y.event (source_fault before y ∷ deps_fault y.event ∷ []) sound

      forgotten-apart : (v : Entry) → Contains stands.gone.0 v → v.event.id ≢ (restored run.firsts y).event.id
      forgotten-apart v c same =
          let z = (stands.gone.1.each v).0 c in
          let low = subst (λ (u : Entry). u.event.id.seq < f u.event.id.hart) z.3 z.2 in
          let hart = ap (λ (i : Id). i.hart) same in
          let seq = ap (λ (i : Id). i.seq) same in
          let base = ap f hart in
          omega (arith, low, seq, base)

      window-apart : (v : Entry) → Contains (map (restored run.firsts) before) v →
          v.event.id ≢ (restored run.firsts y).event.id
      window-apart v c same =
          let u = Contains-map (restored run.firsts) before v c in
          let ids = ap (λ (t : Entry). t.event.id) u.2 ∙ same in
          let hart : u.0.event.id.hart ≡ y.event.id.hart = ap (λ (i : Id). i.hart) ids in
          let seq = ap (λ (i : Id). i.seq) ids in
          let base = ap f hart in
          let low = known-before.below u.0.event (Contains-mapped (λ (t : Entry). t.event) before u.0 u.1) in
          let count = ap (λ (k : ℕ). length (of_hart k (events before))) hart in
          let next = sound-y.seq in
          omega (arith, low, seq, base, count, next)

      forgotten-source : (v : Entry) → Contains stands.gone.0 v →
          v.event.id.hart ≡ (restored run.firsts y).event.id.hart → v.source ≡ y.source
      forgotten-source v c same =
          let z = (stands.gone.1.each v).0 c in
          let hart : z.0.event.id.hart ≡ from.0.event.id.hart =
          ap (λ (u : Entry). u.event.id.hart) z.3 ∙ same ∙ sym (ap (λ (u : Entry). u.event.id.hart) from.3) in
          sym (ap (λ (u : Entry). u.source) z.3) ∙ same-source limit log stands.formed z.0 from.0 z.1 from.1 hart
          ∙ ap (λ (u : Entry). u.source) from.3

      window-source : (v : Entry) → Contains (map (restored run.firsts) before) v →
          v.event.id.hart ≡ (restored run.firsts y).event.id.hart → v.source ≡ y.source
      window-source v c same =
          let u = Contains-map (restored run.firsts) before v c in
          let hart : u.0.event.id.hart ≡ y.event.id.hart = ap (λ (t : Entry). t.event.id.hart) u.2 ∙ same in
          sym (ap (λ (t : Entry). t.source) u.2) ∙ source-before 4096 before y u.0 sound u.1 hart

  -- the past of the window's cut
  more : Event → Bool
  more e = nat_lt e.id.seq (g e.id.hart) && is-in (events w) e

  more-of : (e : Event) → IsTrue (more e) → (e.id.seq < g e.id.hart) × Contains (events w) e
  unfolding more
  more-of e is =
      let both' = and_parts (nat_lt e.id.seq (g e.id.hart)) (is-in (events w) e) is in (
        ltb-true e.id.seq (g e.id.hart) both'.0,
        in-to (events w) e both'.1,
      )

  of-more : (e : Event) → e.id.seq < g e.id.hart → Contains (events w) e → IsTrue (more e)
  unfolding more
  of-more e low c = and_from (nat_lt e.id.seq (g e.id.hart)) (is-in (events w) e) (lt-ltb e.id.seq (g e.id.hart) low)
      (in-from (events w) e c)

  -- with what was forgotten before
  both : Event → Bool
  both a = stands.cut.past a || (is-in (events log) a && (nat_le (f a.id.hart) a.id.seq && more (renumbered f a)))

  are-both : AreBoth f (events log) stands.cut.past more both
  unfolding both
  are-both a = (to, from)
    where
      to : IsTrue (both a) → IsTrue (stands.cut.past a)
          ⊎ (Contains (events log) a × IsKept f a × IsTrue (more (renumbered f a)))
      to is = elim (or_cases (stands.cut.past a)
          (is-in (events log) a && (nat_le (f a.id.hart) a.id.seq && more (renumbered f a))) is) [
            | inl past ↦ inl past
            | inr new ↦ (
                let first = and_parts (is-in (events log) a)
                (nat_le (f a.id.hart) a.id.seq && more (renumbered f a)) new in
                let second = and_parts (nat_le (f a.id.hart) a.id.seq) (more (renumbered f a)) first.1 in
                inr (in-to (events log) a first.0, leb-true (f a.id.hart) a.id.seq second.0, second.1))
          ]

      from : IsTrue (stands.cut.past a)
          ⊎ (Contains (events log) a × IsKept f a × IsTrue (more (renumbered f a))) → IsTrue (both a)
      from (inl past) = rw past refl
      from (inr (c, kept, is)) = or-right (stands.cut.past a)
          (is-in (events log) a && (nat_le (f a.id.hart) a.id.seq && more (renumbered f a)))
          (and_from (is-in (events log) a) (nat_le (f a.id.hart) a.id.seq && more (renumbered f a))
          (in-from (events log) a c)
          (and_from (nat_le (f a.id.hart) a.id.seq) (more (renumbered f a)) (le-leb (f a.id.hart) a.id.seq kept) is))

  more-below : IsBelow (events w) more g
  more-below e c = ((λ is. (more-of e is).0), (λ low. of-more e low c))

  same-window : w ≡ window f log
  same-window = stands.window_is

  both-cut : IsCut run.book.model (events log) run.active.items both
  both-cut = cuts-compose limit run.book.model log run.active.items f stands.cut.past more both
      stands.formed stands.plain
      stands.pairs stands.few stands.cut.cut stands.cut.below
      (subst (λ (xs : List Entry). IsCut run.book.model (events xs) run.active.items more) same-window
      (is-cut.cut more (λ p is. (more-of p is).1) more-below))
      are-both

  -- the window's SCs that it keeps are paired with LRs that it keeps
  pub window-pairs : KeepsPairs g (events w)
  window-pairs =
      pairs-kept 4096 w g (subst (λ (xs : List Entry). WellFormed xs) (sym same-window)
      (window-formed limit log f stands.formed stands.pairs stands.few)) leaves
    where
      leaves : LeavesLastOpen g (events w)
      leaves e c reserved exclusive =
          let waited = is-cut.waits e.id.hart reserved in
          let most = waited.last.1 e (record { of_log = c; own = refl; exclusive = exclusive }) in
          let low = ltb-true waited.lr.id.seq (g waited.lr.id.hart) waited.past in
          let base = ap g waited.last.0.own in
          omega (arith, most, low, base)

  both-below : IsBelow (events log) both (both_firsts f g)
  both-below = below-both log f g stands.cut.past more both stands.cut.below
      (subst (λ (xs : List Entry). IsBelow (events xs) more g) same-window more-below) are-both

  -- no hart forgets more than it has
  within-both : (hart : ℕ) → f hart + g hart ≤ length (of_hart hart (events log))
  within-both hart =
      let most = is-cut.within hart in
      let same = ap (λ (xs : List Entry). length (of_hart hart (events xs))) same-window in
      let first = stands.within hart in
      omega (arith, most, same, count, first)
    where
      own : List Event
      own = of_hart hart (events log)

      own-counts : CountsFrom 0 own
      own-counts k d low = let at = numbered_within limit log stands.formed hart k d low in omega (arith, at)

      count : length (of_hart hart (events (window f log))) ≡ length own - f hart
      count = ap (λ (xs : List Event). length xs) (own-window f hart log)
          ∙ length-map (filter (is_high (f hart)) own) (renumbered f)
          ∙ count-high (f hart) 0 own own-counts (omega arith) ∙ omega arith

  module _ (after : Endless) (book-is : IsBookOf after.book run.book.model (window g w))
      (firsts-are : (hart : ℕ) → f hart + g hart < 4294967296 → first_of after.firsts hart ≡ f hart + g hart)
      (same-counts : after.counts ≡ run.counts) (same-active : after.active ≡ run.active)
      (going : after.stopped ≡ run.stopped)
      (past : AreGone (events (stands.gone.0 ++ forgotten_of run.firsts cut w)) after.past)
      (facts : AreFacts (stands.gone.0 ++ forgotten_of run.firsts cut w) after.facts)
      (exclusives : AreLast (events (stands.gone.0 ++ forgotten_of run.firsts cut w)) after.exclusives) where
    abbrev next : ℕ → ℕ
    next = first_of after.firsts

    next-is : next ≡ both_firsts f g
    next-is = λ i hart. (firsts-are hart (below-limit hart)) i
      where
        below-limit : (hart : ℕ) → f hart + g hart < 4294967296
        below-limit hart = let most = within-both hart in let few' = stands.numbers hart in omega (arith, most, few')

    window-next : after.book.log ≡ window next log
    window-next = book-is.log_is ∙ ap (window g) same-window ∙ window-twice log f g
        ∙ ap (λ (n : ℕ → ℕ). window n log) (sym next-is)

    -- what was forgotten now
    each-to : (y : Entry) → Contains (stands.gone.0 ++ forgotten_of run.firsts cut w) y →
        IsForgottenOf after.firsts log y
    each-to y c = elim (Contains-append_cases stands.gone.0 (forgotten_of run.firsts cut w) y c) [
      | inl old ↦ (let z = (stands.gone.1.each y).0 old in (
        z.0,
        z.1,
        subst (λ (n : ℕ → ℕ). z.0.event.id.seq < n z.0.event.id.hart) (sym next-is)
            (let low = z.2 in omega (arith, low)),
        z.3,
      ))
      | inr new ↦ (
          let u = Contains-map (restored run.firsts) (filter (λ (v : Entry). is_past cut v.event.id) w) y new in
          let there = Contains-unfilter (λ (v : Entry). is_past cut v.event.id) w u.0 u.1 in
          let passes = All-contains (λ (v : Entry). is_past cut v.event.id ≡ true)
          (filter (λ (v : Entry). is_past cut v.event.id) w) u.0
          (filter_passes (λ (v : Entry). is_past cut v.event.id) w) u.1 in
          let from = entry-of u.0 there in
          let kept = from.2 in
          let low : from.0.event.id.seq - f from.0.event.id.hart < g from.0.event.id.hart =
          subst (λ (v : Entry). v.event.id.seq < g v.event.id.hart) (sym from.3)
          (ltb-true u.0.event.id.seq (g u.0.event.id.hart) passes) in (
            from.0,
            from.1,
            subst (λ (n : ℕ → ℕ). from.0.event.id.seq < n from.0.event.id.hart) (sym next-is)
                (omega (arith, low, kept)),
            sym (restored-is from.0 kept) ∙ ap (restored run.firsts) from.3 ∙ u.2,
          ))
    ]

    each-from : (y : Entry) → IsForgottenOf after.firsts log y → Contains
        (stands.gone.0 ++ forgotten_of run.firsts cut w) y
    each-from y (z, c, low, same) = elim (cases_lt z.event.id.seq (f z.event.id.hart)) [
      | inl less ↦ Contains-append_left stands.gone.0 (forgotten_of run.firsts cut w) y
          ((stands.gone.1.each y).1 (z, c, less, same))
      | inr kept ↦ Contains-append_right stands.gone.0 (forgotten_of run.firsts cut w) y
          (subst (λ (v : Entry). Contains (forgotten_of run.firsts cut w) v) (restored-is z kept ∙ same)
          (Contains-mapped (restored run.firsts) (filter (λ (v : Entry). is_past cut v.event.id) w)
          (record z { event = renumbered f z.event })
          (Contains-filter (λ (v : Entry). is_past cut v.event.id) w (record z { event = renumbered f z.event })
          (entry-in z c kept)
          (lt-ltb (z.event.id.seq - f z.event.id.hart) (g z.event.id.hart)
          (let low' = subst (λ (n : ℕ → ℕ). z.event.id.seq < n z.event.id.hart) next-is low in
          omega (arith, low', kept))))))
    ]

    pub cut-stands : StandsFor after log
    cut-stands = record {
      going = going ∙ stands.going;
      book_going = book-is.going;
      formed = stands.formed;
      plain = stands.plain;
      lawful = (
        stands.lawful.0,
        subst (λ (m : MemoryModel). Lawful m (events log) stands.lawful.0) (sym book-is.model_is)
            stands.lawful.1,
      );
      window_is = window-next;
      harts = ap (λ (xs : List ℕ). length xs) same-counts ∙ stands.harts;
      counts_are = λ hart. ap (λ (xs : List ℕ). slice_index_or xs hart 0) same-counts ∙ stands.counts_are hart;
      numbers = stands.numbers;
      within = λ hart. subst (λ (n : ℕ → ℕ). n hart ≤ length (of_hart hart (events log)))
          (sym next-is) (within-both hart);
      few = λ hart. subst (λ (n : ℕ → ℕ). length (of_hart hart (events log)) ≤ n hart + 4096) (sym next-is)
          (let most = stands.few hart in omega (arith, most));
      pairs = subst (λ (n : ℕ → ℕ). KeepsPairs n (events log)) (sym next-is)
          (pairs-both limit log f g stands.formed stands.few stands.pairs
          (subst (λ (xs : List Entry). KeepsPairs g (events xs)) same-window window-pairs));
      cut = record {
        past = both;
        below = subst (λ (n : ℕ → ℕ). IsBelow (events log) both n) (sym next-is) both-below;
        cut = subst (λ (m : MemoryModel). IsCut m (events log) after.active.items both) (sym book-is.model_is)
            (subst (λ (xs : List ℕ). IsCut run.book.model (events log) xs both)
            (sym (ap (λ v. v.items) same-active)) both-cut);
      };
      gone = (
        stands.gone.0 ++ forgotten_of run.firsts cut w,
        record {
          each = λ y. (each-to y, each-from y);
          past = past;
          facts = facts;
          exclusives = exclusives;
        },
      );
    }
