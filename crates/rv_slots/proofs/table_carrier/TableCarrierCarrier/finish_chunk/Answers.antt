use Rattle.rv_slots.proofs.Common.{◌≡◌, Bool, sym, ap, ◌∙◌, subst, pinned_view, IsDone}
use Rattle.rv_slots.specs.declared.seats.Pinned.{Pinned}
use Rattle.rv_slots.proofs.Loops.{let_go}
use Rattle.rv_slots.proofs.table_carrier.TableCarrierCarrier.finish_chunk.Goals.{then-applied, else-applied}
use Rattle.rv_slots.proofs.table_carrier.TableCarrierCarrier.finish_chunk.Goals as goal

pub returns-clause-finishes : goal.returns-clause-finishes
returns-clause-finishes g c =
    let old = c.args.lease in
    let now = c.if-applied.lease in
    let out = c.unpin-seat in
    let gone = λ (e : now.slot ≡ old.slot) (f : now.number ≡ old.number).
    let_go (pinned_view now) old.slot now.slot old.number now.number out.result.0 out.result.1
    c.free.result c.free.new.seat e f out.ensures.step c.free.ensures.step in
    elim c.if-applied.branch [
      | then-applied w ↦ (
        pinned_view now,
        subst (λ (b : Bool). IsDone old b (pinned_view now)) (sym w.if-applied.true)
            (w.done.ensures.step.0, ap pinned_view w.lease-is ∙ w.done.ensures.step.1),
        gone (ap (λ (l : Pinned). l.slot) w.lease-is ∙ w.done.ensures.same.2)
            (ap (λ (l : Pinned). l.number) w.lease-is ∙ w.done.ensures.same.1),
      )
      | else-applied w ↦ (
        pinned_view now,
        subst (λ (b : Bool). IsDone old b (pinned_view now)) (sym w.if-applied.false)
            (ap pinned_view w.lease-is),
        gone (ap (λ (l : Pinned). l.slot) w.lease-is) (ap (λ (l : Pinned). l.number) w.lease-is),
      )
    ]
