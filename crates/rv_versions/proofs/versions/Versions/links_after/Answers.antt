-- Each reason's links are those to the accesses in its interval.
use Rattle.rv_event.specs.Log.{events}
use Rattle.rv_versions.proofs.Linking.{after_of}
use Rattle.rv_versions.proofs.versions.Versions.links_after.Goals as goal

pub returns : goal.returns
returns c =
    after_of (events c.args.self.now) c.args.event.now c.args.reserved c.args.own.now c.of_reserved-lr.result.now
    c.of_reserved-lr.ensures _ _ _ _ _ _ c.above-next.result c.above-above.result c.of-own_version.result
    c.above-foreign.result c.higher_store-end_wrote.result c.higher_store-end_read.result
    c.higher_store-end_held.result _ _ _ c.stored-wrote.ensures c.returned-read.ensures c.held-held.ensures
    c.above-next.ensures c.above-above.ensures c.of-own_version.ensures c.above-foreign.ensures
    c.higher_store-end_wrote.ensures c.higher_store-end_read.ensures c.higher_store-end_held.ensures
    c.in_ok-coherence.ensures c.in_ok-reads_from.ensures c.in_ok-from_read.ensures c.in_ok-atomic_in.ensures
    c.in_ok-links.ensures c.requires.empty
