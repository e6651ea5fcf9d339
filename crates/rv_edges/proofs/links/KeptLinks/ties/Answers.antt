-- There are as many numbers of links as events.
use Rattle.rv_edges.proofs.Common.{arith, length, ap}
use Rattle.rv_edges.proofs.OwnLinkLists.{length-own_from}
use Rattle.rv_edges.proofs.links.KeptLinks.ties.Goals as goal

pub ties_from-requires-clause-long : goal.ties_from-requires-clause-long
ties_from-requires-clause-long c =
    omega (
      arith,
      c.requires,
      ap length c.self.view_is,
      ap length c.as_slice-sides.ensures.value,
      length-own_from c.self.inside.links.items c.self.inside.sides.items,
    )
