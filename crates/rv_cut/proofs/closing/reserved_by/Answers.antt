-- A hart's reservation is told by its last event of the past that opens or ends one.
use Rattle.std.proofs.Common.{Bool, List, ap, false, filter, get_or, if◌then◌else◌, sym, take, ◌&&◌, ◌==◌}
use Rattle.std.proofs.Common.{◌∙◌}
use Rattle.std.proofs.lemmas.List.{take_all}
use Rattle.rv_event.proofs.Scans.{event-at, events-more}
use Rattle.rv_event.specs.Faults.{is_lr, is_reserved}
use Rattle.rv_event.specs.Log.{events}
use Rattle.rv_event.specs.Operations.{is_exclusive}
use Rattle.rv_event.specs.declared.event.Entry.{Entry}
use Rattle.rv_event.specs.declared.event.Event.{Event}
use Rattle.rv_settle.proofs.Reserved.{reserved-in, reserved-out}
use Rattle.rv_cut.proofs.closing.reserved_by.Goals.{else-is_past, then-is_past}
use Rattle.rv_cut.specs.Cuts.{is_past}
use Rattle.rv_cut.proofs.closing.reserved_by.Goals as goal

pub note_reservation-requires : goal.note_reservation-requires
note_reservation-requires c =
    c.requires.harts c.entry-item.result.event
    (event-at c.args.log.now c.loop-entry.entry-index c.loop-entry-test.true c.entry-item.result c.entry-item.is)

pub loop-entry-preserved : goal.loop-entry-preserved
loop-entry-preserved c = λ hart.
    let e : Event = c.entry-item.result.event in
    let is_gone : Event → Bool = λ x. is_past c.args.cut.now x.id in
    let before = events (take c.loop-entry.entry-index c.args.log.now) in
    let more = ap (λ (es : List Event). is_reserved (filter is_gone es) hart)
    (events-more c.args.log.now c.loop-entry.entry-index c.loop-entry-test.true c.entry-item.result
    c.entry-item.is) in
    elim c.if-is_past.branch [
      | then-is_past w ↦
          ap (λ (rs : List Bool). get_or rs hart false) w.reserved-is
          ∙ w.note_reservation.ensures hart
          ∙ ap (λ (b : Bool). if (hart == e.id.hart) && is_exclusive e.op then is_lr e.op else b)
          (c.loop-entry.invariant hart)
          ∙ sym (reserved-in is_gone before e hart (sym w.if-is_past.ensures))
          ∙ sym more
      | else-is_past w ↦
          ap (λ (rs : List Bool). get_or rs hart false) w.reserved-is
          ∙ c.loop-entry.invariant hart
          ∙ sym (reserved-out is_gone before e hart (sym w.if-is_past.ensures))
          ∙ sym more
    ]

pub returns : goal.returns
returns c = λ hart.
    c.loop-entry.invariant hart
    ∙ ap (λ (xs : List Entry). is_reserved (filter (λ (x : Event). is_past c.args.cut.now x.id) (events xs)) hart)
    (take_all c.loop-entry.entry-index c.args.log.now c.loop-entry-test.false)
