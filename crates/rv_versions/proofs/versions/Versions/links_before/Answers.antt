-- Each reason's links are those to the accesses in its interval.
use Rattle.rv_event.specs.Log.{events}
use Rattle.rv_versions.proofs.Linking.{before_of}
use Rattle.rv_versions.proofs.versions.Versions.links_before.Goals as goal

pub returns : goal.returns
returns c =
    before_of (events c.args.self.now) c.args.event.now c.args.reserved c.args.own.now c.of_reserved-lr.result.now
    c.of_reserved-lr.ensures _ _ _ _ _ _ c.below-nearest.result c.of-read.result c.of-held.result
    c.below-unparted.result c.lower_store-low.result c.unparted_from-parted.result _ _ _ c.stored-wrote.ensures
    c.returned.ensures c.held.ensures c.below-nearest.ensures c.of-read.ensures c.of-held.ensures
    c.below-unparted.ensures c.lower_store-low.ensures c.unparted_from-parted.ensures.unparted c.in_ok-coherence.ensures
    c.in_ok-reads_from.ensures c.in_ok-from_read.ensures c.in_ok-atomic_in.ensures c.in_ok-links.ensures
