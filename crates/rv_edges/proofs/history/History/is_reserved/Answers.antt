-- A hart's events are the log's of the hart.
use Rattle.std.proofs.Common.{rules}
use Rattle.rv_hart.proofs.OfHart.{reserved-own}
use Rattle.rv_edges.proofs.history.History.is_reserved.Goals as goal

pub returns-in-Some : goal.returns-in-Some
returns-in-Some c =
    let at = c.in-Some.ensures.hart in
    let same = c.is_reserved.ensures _ at.of_log in
    let hart = at.hart in
    search (reserved-own, rules)
