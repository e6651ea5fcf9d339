-- The log before the new entry is well formed, and the new entry has no fault over it.
use Rattle.std.proofs.Common.{◌∷◌, [], List, subst, sym}
use Rattle.rv_event.proofs.Common.{map-append, deps_fault, events, source_fault}
use Rattle.rv_event.specs.declared.event.Entry.{Entry}
use Rattle.rv_event.specs.declared.event.Event.{Event}
use Rattle.rv_event.proofs.Indexed.{indexed_within, sound_from_none}
use Rattle.rv_event.proofs.Pushed.{within-front, within-last}
use Rattle.rv_settle.specs.Settled.{IsSettledFor}
use Rattle.rv_settle.proofs.Stays.{settled-stays}
use Rattle.rv_settle.proofs.laws.settled_stays.Goals as goal

pub returns : goal.returns
returns c limit model log x active p ok settled hart is_active =
    subst (λ (es : List Event). IsSettledFor model es hart p) (sym (map-append (λ (y : Entry). y.event) log (x ∷ [])))
    (settled-stays model (events log) x.event (indexed_within limit log (within-front limit log (x ∷ []) ok))
    (sound_from_none (events log) x.event (source_fault log x ∷ deps_fault x.event ∷ []) (within-last limit log x ok))
    hart p (settled hart is_active))
