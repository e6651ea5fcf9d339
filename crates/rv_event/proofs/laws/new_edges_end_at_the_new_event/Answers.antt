-- The log before the last entry is well formed, and the last entry has no fault over it.
use Rattle.rv_event.proofs.Common.{◌∷◌, [], List, subst, map-append, events, IsEdge, source_fault, deps_fault}
use Rattle.rv_event.proofs.Common.{Event, Entry}
use Rattle.rv_event.proofs.Indexed.{indexed_within, sound_from_none}
use Rattle.rv_event.proofs.Pushed.{within-front, within-last}
use Rattle.rv_event.proofs.Settled.{edge-push}
use Rattle.rv_event.proofs.laws.new_edges_end_at_the_new_event.Goals as goal

pub returns : goal.returns
returns c limit model log x i j reason ok edge =
    edge-push model (events log) x.event (indexed_within limit log (within-front limit log (x ∷ []) ok))
    (sound_from_none (events log) x.event (source_fault log x ∷ deps_fault x.event ∷ []) (within-last limit log x ok))
    i j reason
    (subst (λ (es : List Event). IsEdge model es i reason j) (map-append (λ (y : Entry). y.event) log (x ∷ [])) edge)
