use Rattle.rv_endless.proofs.Forgotten.{follows-known, known-more, known-same, one-of}
use Rattle.rv_endless.proofs.exclusives.forget_exclusives.Goals.{else-is_past, then-is_past}
use Rattle.rv_endless.specs.Exclusives.{AreLast}
use Rattle.rv_endless.specs.declared.exclusives.Exclusive.{Exclusive}
use Rattle.rv_endless.specs.Forgetting.{forgotten_of, restored}
use Rattle.rv_event.proofs.Common.{map-append}
use Rattle.rv_event.specs.Log.{events}
use Rattle.rv_event.specs.declared.event.Entry.{Entry}
use Rattle.rv_event.specs.declared.event.Event.{Event}
use Rattle.std.proofs.Common.{ℕ, ◌<◌, ◌∙◌, ◌+◌, ◌++◌, ◌∷◌, [], Contains, List, Option, subst, sym, take}
use Rattle.std.proofs.lemmas.List.{take_all}
use Rattle.rv_endless.proofs.exclusives.forget_exclusives.Goals as goal

pub entries-preserved : goal.entries-preserved
entries-preserved c = elim c.if-is_past.branch [
  | then-is_past w ↦ λ gone numbers fresh are.
      let same = w.restore-known.ensures (numbers c.entry-item.result (of-window gone)) in
      let follows = follows-known c.args.firsts.now c.args.cut.now gone c.args.window.now c.entries.entry-index
      c.entries-test.true c.entry-item.result c.entry-item.is fresh in
      subst (λ (l : List (Option Exclusive)). AreLast (events (known gone (c.entries.entry-index + 1))) l)
      (sym w.last-is)
      (subst (λ (xs : List Entry). AreLast (events xs) w.note.new.last)
      (sym (known-more c.args.firsts.now c.args.cut.now gone c.args.window.now
      c.entries.entry-index c.entries-test.true
      c.entry-item.result c.entry-item.is (sym c.is_past.ensures ∙ w.if-is_past.true)))
      (subst (λ (es : List Event). AreLast es w.note.new.last)
      (sym (map-append (λ (y : Entry). y.event) (known gone c.entries.entry-index)
      (restored c.args.firsts.now c.entry-item.result ∷ [])))
      (subst (λ (y : Entry). AreLast (events (known gone c.entries.entry-index) ++ y.event ∷ []) w.note.new.last) same
      (w.note.ensures (events (known gone c.entries.entry-index))
      (subst (λ (y : Entry). y.event.id.hart < 16) (sym same) follows.hart)
      (c.entries.invariant gone numbers fresh are)))))
  | else-is_past w ↦ λ gone numbers fresh are.
      subst (λ (l : List (Option Exclusive)). AreLast (events (known gone (c.entries.entry-index + 1))) l)
      (sym w.last-is)
      (subst (λ (xs : List Entry). AreLast (events xs) c.entries.last)
      (sym (known-same c.args.firsts.now c.args.cut.now gone c.args.window.now
      c.entries.entry-index c.entries-test.true
      c.entry-item.result c.entry-item.is (sym c.is_past.ensures ∙ w.if-is_past.false)))
      (c.entries.invariant gone numbers fresh are))
]
  where
    known : List Entry → ℕ → List Entry
    known gone n = gone ++ forgotten_of c.args.firsts.now c.args.cut.now (take n c.args.window.now)

    of-window : List Entry → Contains c.args.window.now c.entry-item.result
    of-window gone = one-of c.args.firsts.now c.args.cut.now gone c.args.window.now
        c.entries.entry-index c.entries-test.true
        c.entry-item.result c.entry-item.is

pub returns : goal.returns
returns c = λ gone numbers fresh are.
    subst (λ (xs : List Entry). AreLast
    (events (gone ++ forgotten_of c.args.firsts.now c.args.cut.now xs)) c.entries.last)
    (take_all c.entries.entry-index c.args.window.now c.entries-test.false)
    (c.entries.invariant gone numbers fresh are)
