use Rattle.rv_endless.proofs.Forgotten.{follows-known, known-more, known-same, one-of}
use Rattle.rv_endless.proofs.forget.forget.Goals.{else-is_past, then-is_past}
use Rattle.rv_endless.specs.Forgetting.{forgotten_of, restored}
use Rattle.rv_event.proofs.Common.{map-append}
use Rattle.rv_event.specs.Log.{events}
use Rattle.rv_event.specs.declared.event.Entry.{Entry}
use Rattle.rv_event.specs.declared.event.Event.{Event}
use Rattle.rv_past.specs.Facts.{AreFacts, Follows, HasRoom}
use Rattle.rv_past.specs.Gone.{AreGone, HasPlaces}
use Rattle.rv_past.specs.declared.facts.Facts.{Facts}
use Rattle.rv_past.specs.declared.past.Past.{Past}
use Rattle.std.proofs.Common.{ℕ, ◌∙◌, ◌+◌, ◌++◌, ◌∷◌, [], Contains, List, arith, subst, sym, take}
use Rattle.std.proofs.lemmas.List.{take_all}
use Rattle.rv_endless.proofs.forget.forget.Goals as goal

pub add_reserved-requires : goal.add_reserved-requires
add_reserved-requires c = let low = c.entries-test.true in c.entries.invariant.places 1 (omega (arith, low))

pub add-requires : goal.add-requires
add-requires c = let low = c.entries-test.true in c.entries.invariant.room 1 (omega (arith, low))

pub entries-preserved : goal.entries-preserved
entries-preserved c = elim c.if-is_past.branch [
  | then-is_past w ↦ record {
    places = λ more few. subst (λ (p : Past). HasPlaces p more) (sym w.past-is)
        (w.add_reserved.ensures.room more (c.entries.invariant.places (more + 1) (omega (arith, few))));
    room = λ more few. subst (λ (f : Facts). HasRoom f more) (sym w.facts-is)
        (w.add.ensures.room more (c.entries.invariant.room (more + 1) (omega (arith, few))));
    past = λ gone numbers are.
        subst (λ (p : Past). AreGone (events (known gone (c.entries.entry-index + 1))) p) (sym w.past-is)
        (subst (λ (xs : List Entry). AreGone (events xs) w.add_reserved.new.self)
        (sym (known-more c.args.firsts.now c.args.cut.now gone c.args.window.now
        c.entries.entry-index c.entries-test.true
        c.entry-item.result c.entry-item.is (sym c.is_past.ensures ∙ w.if-is_past.true)))
        (subst (λ (es : List Event). AreGone es w.add_reserved.new.self)
        (sym (map-append (λ (y : Entry). y.event) (known gone c.entries.entry-index)
        (restored c.args.firsts.now c.entry-item.result ∷ [])))
        (subst (λ (y : Entry). AreGone (events (known gone c.entries.entry-index) ++ y.event ∷ [])
        w.add_reserved.new.self)
        (w.restore-known.ensures (numbers c.entry-item.result (of-window gone)))
        (w.add_reserved.ensures.added (events (known gone c.entries.entry-index))
        (c.entries.invariant.past gone numbers are)))));
    known = λ gone numbers fresh are.
        let same = w.restore-known.ensures (numbers c.entry-item.result (of-window gone)) in
        subst (λ (f : Facts). AreFacts (known gone (c.entries.entry-index + 1)) f) (sym w.facts-is)
        (subst (λ (xs : List Entry). AreFacts xs w.add.new.self)
        (sym (known-more c.args.firsts.now c.args.cut.now gone c.args.window.now
        c.entries.entry-index c.entries-test.true
        c.entry-item.result c.entry-item.is (sym c.is_past.ensures ∙ w.if-is_past.true)))
        (subst (λ (y : Entry). AreFacts (known gone c.entries.entry-index ++ y ∷ []) w.add.new.self) same
        (w.add.ensures.added (known gone c.entries.entry-index) (c.entries.invariant.known gone numbers fresh are)
        (subst (λ (y : Entry). Follows (known gone c.entries.entry-index) y) (sym same)
        (follows-known c.args.firsts.now c.args.cut.now gone c.args.window.now c.entries.entry-index c.entries-test.true
        c.entry-item.result c.entry-item.is fresh)))));
  }
  | else-is_past w ↦ record {
    places = λ more few. subst (λ (p : Past). HasPlaces p more) (sym w.past-is)
        (c.entries.invariant.places more (omega (arith, few)));
    room = λ more few. subst (λ (f : Facts). HasRoom f more) (sym w.facts-is)
        (c.entries.invariant.room more (omega (arith, few)));
    past = λ gone numbers are.
        subst (λ (p : Past). AreGone (events (known gone (c.entries.entry-index + 1))) p) (sym w.past-is)
        (subst (λ (xs : List Entry). AreGone (events xs) c.entries.past)
        (sym (known-same c.args.firsts.now c.args.cut.now gone c.args.window.now
        c.entries.entry-index c.entries-test.true
        c.entry-item.result c.entry-item.is (sym c.is_past.ensures ∙ w.if-is_past.false)))
        (c.entries.invariant.past gone numbers are));
    known = λ gone numbers fresh are.
        subst (λ (f : Facts). AreFacts (known gone (c.entries.entry-index + 1)) f) (sym w.facts-is)
        (subst (λ (xs : List Entry). AreFacts xs c.entries.facts)
        (sym (known-same c.args.firsts.now c.args.cut.now gone c.args.window.now
        c.entries.entry-index c.entries-test.true
        c.entry-item.result c.entry-item.is (sym c.is_past.ensures ∙ w.if-is_past.false)))
        (c.entries.invariant.known gone numbers fresh are));
  }
]
  where
    known : List Entry → ℕ → List Entry
    known gone n = gone ++ forgotten_of c.args.firsts.now c.args.cut.now (take n c.args.window.now)

    of-window : List Entry → Contains c.args.window.now c.entry-item.result
    of-window gone = one-of c.args.firsts.now c.args.cut.now gone c.args.window.now
        c.entries.entry-index c.entries-test.true
        c.entry-item.result c.entry-item.is

pub returns-clause-past : goal.returns-clause-past
returns-clause-past c = λ gone numbers are.
    subst (λ (xs : List Entry). AreGone
    (events (gone ++ forgotten_of c.args.firsts.now c.args.cut.now xs)) c.entries.past)
    (take_all c.entries.entry-index c.args.window.now c.entries-test.false) (c.entries.invariant.past gone numbers are)

pub returns-clause-facts : goal.returns-clause-facts
returns-clause-facts c = λ gone numbers fresh are.
    subst (λ (xs : List Entry). AreFacts (gone ++ forgotten_of c.args.firsts.now c.args.cut.now xs) c.entries.facts)
    (take_all c.entries.entry-index c.args.window.now c.entries-test.false)
    (c.entries.invariant.known gone numbers fresh are)
