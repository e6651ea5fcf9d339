use Rattle.rv_event.specs.Log.{events}
use Rattle.rv_event.specs.declared.event.Event.{Event}
use Rattle.rv_event.specs.declared.event.Op.TheVariants.{Carrier}
use Rattle.std.proofs.Common.{◌≢◌, Contains}
use Rattle.std.proofs.lemmas.List.Elements.{All-contains}
use Rattle.rv_event.proofs.Indexed.{indexed_from_WellFormed, indexed_within}
use Rattle.rv_settle.proofs.Windows.{edge-back, edge-in, into-window, onto-window}
use Rattle.rv_settle.specs.Windows.{window}
use Rattle.rv_settle.proofs.laws.windows_have_the_edges.Goals as goal

pub returns : goal.returns
returns c limit model log first reason a b ok ok' plain pairs ca cb kept kept' =
    let known = indexed_within limit log ok in
    let known' = indexed_from_WellFormed (window first log) ok' in
    let none : (m : Event) → Contains (events log) m → m.op ≢ Carrier =
    λ m there. All-contains (λ (x : Event). x.op ≢ Carrier) (events log) m plain there in (
      edge-in (events log) (events (window first log)) first known known' (into-window first log)
          (onto-window first log) model none pairs a b ca cb kept kept' reason,
      edge-back (events log) (events (window first log)) first known known' (into-window first log)
          (onto-window first log) model none pairs a b ca cb kept kept' reason,
    )
