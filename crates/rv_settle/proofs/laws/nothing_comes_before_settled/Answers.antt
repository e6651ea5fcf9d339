-- The log before the new entry is well formed, and the new entry has no fault over it.
use Rattle.std.proofs.Common.{◌∷◌, [], List, subst}
use Rattle.rv_event.proofs.Common.{map-append, deps_fault, events, source_fault, IsEdge, Lawful}
use Rattle.rv_event.specs.declared.event.Entry.{Entry}
use Rattle.rv_event.specs.declared.event.Event.{Event}
use Rattle.rv_event.proofs.Indexed.{indexed_within, sound_from_none}
use Rattle.rv_event.proofs.Pushed.{within-front, within-last}
use Rattle.rv_settle.proofs.Forward.{no_way_back}
use Rattle.rv_settle.proofs.laws.nothing_comes_before_settled.Goals as goal

pub returns : goal.returns
returns c limit model log x active p reason order ok is_active settled edge lawful =
    let same = map-append (λ (y : Entry). y.event) log (x ∷ []) in
    no_way_back model (events log) x.event (indexed_within limit log (within-front limit log (x ∷ []) ok))
    (sound_from_none (events log) x.event (source_fault log x ∷ deps_fault x.event ∷ []) (within-last limit log x ok))
    order (subst (λ (es : List Event). Lawful model es order) same lawful) p reason (settled x.event.id.hart is_active)
    (subst (λ (es : List Event). IsEdge model es x.event.id reason p.id) same edge)
