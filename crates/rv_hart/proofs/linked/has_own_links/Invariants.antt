use Rattle.rv_hart.proofs.Common.{take, All, HasOwn}
use Rattle.rv_hart.proofs.linked.has_own_links.Given as goal

abbrev pub invariant-loop-link : goal.invariant-loop-link
invariant-loop-link l = All (HasOwn l.row l.number) (take l.link-index l.links)
