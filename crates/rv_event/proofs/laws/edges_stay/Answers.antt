use Rattle.rv_event.specs.Log.{events}
use Rattle.rv_event.proofs.Growing.{grows_from_Continues, IsEdge-grows}
use Rattle.rv_event.proofs.Indexed.{indexed_within}
use Rattle.rv_event.proofs.laws.edges_stay.Goals as goal

pub returns : goal.returns
returns c limit model log longer i j reason ok ok' continues edge =
    IsEdge-grows model (events log) (events longer) (grows_from_Continues log longer continues)
    (indexed_within limit log ok) (indexed_within limit longer ok') i j reason edge
