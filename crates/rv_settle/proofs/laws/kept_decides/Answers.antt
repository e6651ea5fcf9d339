-- The log before the new entry is well formed, and the new entry has no fault over it.
use Rattle.std.proofs.Common.{◌∷◌, ◌↔◌, [], List, subst, sym}
use Rattle.rv_event.proofs.Common.{map-append, deps_fault, events, source_fault}
use Rattle.rv_event.proofs.Indexed.{indexed_within, sound_from_none}
use Rattle.rv_event.proofs.Pushed.{within-front, within-last}
use Rattle.rv_event.specs.Orders.{Lawful}
use Rattle.rv_event.specs.declared.event.Entry.{Entry}
use Rattle.rv_event.specs.declared.event.Event.{Event}
use Rattle.rv_event.specs.declared.event.Id.{Id}
use Rattle.rv_settle.specs.Cuts.{GoesForward, IsOrderOfKept, NoneStaleKept}
use Rattle.rv_settle.specs.Past.{ComesBeforePast}
use Rattle.rv_settle.proofs.Kept.{enough, needed}
use Rattle.rv_settle.proofs.laws.kept_decides.Goals as goal

pub returns : goal.returns
returns c limit model log x active past before ok is_active cut lawful =
    let known = indexed_within limit log (within-front limit log (x ∷ []) ok) in
    let sound = sound_from_none (events log) x.event (source_fault log x ∷ deps_fault x.event ∷ [])
    (within-last limit log x ok) in
    subst (λ (es : List Event). ((order : List Id) × Lawful model es order)
    ↔ (NoneStaleKept es past × (ComesBeforePast es past x.event → ⊥)
    × ((rest : List Id) × IsOrderOfKept es past rest × GoesForward model es rest)))
    (sym (map-append (λ (y : Entry). y.event) log (x ∷ []))) (
      λ some. needed model (events log) x.event known sound active past cut some.0 is_active some.1,
      λ all. enough model (events log) x.event known sound active past cut before lawful all.2.0 all.2.1 all.0 all.1
          all.2.2,
    )
