use Rattle.std.proofs.Common.{take}
use Rattle.rv_hart.proofs.FromLinks.{IsJoined}
use Rattle.rv_hart.proofs.linked.join_linked.Given as goal

abbrev pub invariant-loop-link : goal.invariant-loop-link
invariant-loop-link l = IsJoined l.rows (take l.link-index l.links) l.initial.row l.row
