use Rattle.std.proofs.Common.{rules}
use Rattle.rv_event.proofs.LawfulMerge.{Lawful-merge}
use Rattle.rv_event.proofs.Sources.{SameHarts-from_sources, WellFormed-sources}
use Rattle.rv_event.proofs.laws.merges_share_orders.Goals as goal

pub returns : goal.returns
returns c model log other order ok same lawful =
    search (Lawful-merge, WellFormed-sources, SameHarts-from_sources, rules)
