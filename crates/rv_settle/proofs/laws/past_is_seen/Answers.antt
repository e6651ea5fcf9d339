-- The log before the new entry is well formed, and the new entry has no fault over it.
use Rattle.std.proofs.Common.{◌∷◌, ◌↔◌, [], IsTrue, List, subst, sym}
use Rattle.rv_event.proofs.Common.{map-append, deps_fault, events, source_fault}
use Rattle.rv_event.specs.declared.event.Entry.{Entry}
use Rattle.rv_event.specs.declared.event.Event.{Event}
use Rattle.rv_event.proofs.Indexed.{indexed_within, sound_from_none}
use Rattle.rv_event.proofs.Pushed.{within-front, within-last}
use Rattle.rv_settle.specs.Past.{ComesBeforePast}
use Rattle.rv_settle.specs.Settled.{AnyEdge}
use Rattle.rv_settle.proofs.Seen.{edge-seen, seen-edge}
use Rattle.rv_settle.proofs.laws.past_is_seen.Goals as goal

pub returns : goal.returns
returns c limit model log x active past ok cut =
    let known = indexed_within limit log (within-front limit log (x ∷ []) ok) in
    let sound = sound_from_none (events log) x.event (source_fault log x ∷ deps_fault x.event ∷ [])
    (within-last limit log x ok) in
    subst (λ (es : List Event). ((p : Event) × IsTrue (past p) × AnyEdge model es x.event.id p.id)
    ↔ ComesBeforePast es past x.event) (sym (map-append (λ (y : Entry). y.event) log (x ∷ []))) (
      edge-seen model (events log) x.event known sound active past cut,
      seen-edge model (events log) x.event known sound active past cut,
    )
