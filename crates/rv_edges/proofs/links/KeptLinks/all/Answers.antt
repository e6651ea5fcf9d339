-- They stand in one list, one event after the other.
use Rattle.std.proofs.Common.{rules}
use Rattle.rv_edges.proofs.OwnLinkLists.{flat_map-own_from}
use Rattle.rv_edges.proofs.links.KeptLinks.all.Goals as goal

pub returns : goal.returns
returns c = search (flat_map-own_from, rules)
