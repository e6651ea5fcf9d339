use Rattle.std.proofs.Common.{inl}
use Rattle.rvmon.proofs.listing.Judge.judge_list.Goals as goal

pub returns-then-is_empty : goal.returns-then-is_empty
returns-then-is_empty g c = inl (c.in-Some.name, c.in-Some.is, c.in-Ok.ensures)

pub returns-else-status-eq-INCOMPLETE : goal.returns-else-status-eq-INCOMPLETE
returns-else-status-eq-INCOMPLETE g c = inl (c.in-Some.name, c.in-Some.is, c.in-Ok.ensures)
