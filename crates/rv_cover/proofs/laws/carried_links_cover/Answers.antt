use Rattle.rv_event.proofs.Indexed.{sound_of}
use Rattle.rv_cover.proofs.Indexing.{indexed_from_events}
use Rattle.rv_cover.proofs.Covering.{covered}
use Rattle.rv_cover.proofs.laws.carried_links_cover.Goals as goal

pub returns : goal.returns
returns c model log e kept listed ok none covers carries =
    search (covered, indexed_from_events, sound_of)
