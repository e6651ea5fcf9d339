-- The past of a cut, with that of a cut of its window.
use Rattle.std.proofs.Common.{◌≢◌, Contains}
use Rattle.std.proofs.lemmas.List.Elements.{All-contains}
use Rattle.rv_event.proofs.Indexed.{indexed_from_WellFormed, indexed_within}
use Rattle.rv_event.specs.Log.{events}
use Rattle.rv_event.specs.declared.event.Event.{Event}
use Rattle.rv_event.specs.declared.event.Op.TheVariants.{Carrier}
use Rattle.rv_settle.proofs.Composed.{composed}
use Rattle.rv_settle.proofs.Formed.{window-formed}
use Rattle.rv_settle.proofs.Windows.{into-window, onto-window}
use Rattle.rv_settle.specs.Windows.{window}
use Rattle.rv_settle.specs.Laws.{CutsCompose}

-- is the past of a cut
pub cuts-compose : CutsCompose
cuts-compose limit model log active first past more both ok plain pairs few cut below cut' are =
    let none : (m : Event) → Contains (events log) m → m.op ≢ Carrier =
    λ m there. All-contains (λ (x : Event). x.op ≢ Carrier) (events log) m plain there in
    composed model (events log) (events (window first log)) first (indexed_within limit log ok)
    (indexed_from_WellFormed (window first log) (window-formed limit log first ok pairs few)) (into-window first log)
    (onto-window first log) none pairs active past more both cut below cut' are
