-- Each edge goes forward in both orders together, and that suffices.
use Rattle.std.proofs.Common.{◌++◌}
use Rattle.rv_cert.proofs.Suffice.{lawful_from_edges}
use Rattle.rv_event.proofs.Indexed.{indexed_within}
use Rattle.rv_event.specs.Log.{events}
use Rattle.rv_settle.proofs.Joined.{joined-forward}
use Rattle.rv_settle.proofs.laws.orders_join.Goals as goal

pub returns : goal.returns
returns c limit model log active past first rest ok none_stale cut parts first_forward rest_forward =
    let known = indexed_within limit log ok in
    lawful_from_edges model (events log) (first ++ rest) known none_stale
    (joined-forward model (events log) active past first rest known cut parts first_forward rest_forward) parts.is_order
