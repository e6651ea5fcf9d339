-- The log before the new entry is well formed, and the new entry has no fault over it.
use Rattle.std.proofs.Common.{◌∷◌, [], List, subst, sym}
use Rattle.rv_event.proofs.Common.{map-append, deps_fault, events, source_fault, Lawful}
use Rattle.rv_event.specs.declared.event.Entry.{Entry}
use Rattle.rv_event.specs.declared.event.Event.{Event}
use Rattle.rv_event.proofs.Indexed.{indexed_within, sound_from_none}
use Rattle.rv_event.proofs.Pushed.{within-front, within-last}
use Rattle.rv_settle.specs.Cuts.{IsCut}
use Rattle.rv_settle.proofs.Cuts.{cut-stays, none-back}
use Rattle.rv_settle.specs.Laws.{CutStays}

-- a cut stays one with one event more, as long as some order is lawful
pub cut-stays-one : CutStays
cut-stays-one limit model log x active past order ok is_active cut lawful =
    let same = map-append (λ (y : Entry). y.event) log (x ∷ []) in
    let known = indexed_within limit log (within-front limit log (x ∷ []) ok) in
    let sound = sound_from_none (events log) x.event (source_fault log x ∷ deps_fault x.event ∷ [])
    (within-last limit log x ok) in
    let lawful_events = subst (λ (es : List Event). Lawful model es order) same lawful in
    subst (λ (es : List Event). IsCut model es active past) (sym same)
    (cut-stays model (events log) x.event known sound active past cut
    (none-back model (events log) x.event known sound active past cut order is_active lawful_events))
