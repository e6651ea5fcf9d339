use Rattle.std.proofs.Common.{inl, inr}
use Rattle.rvmon.proofs.backing.texts_asked.Goals as goal

pub returns-in-Ok : goal.returns-in-Ok
returns-in-Ok g c = inr (c.in-Some.name, c.in-Some.is, c.in-Ok.ensures.texts)

pub returns-in-Err : goal.returns-in-Err
returns-in-Err g c = inl (c.new-in-Err.ensures, inr (inr (c.in-Some.name, c.in-Some.is, c.in-Err.ensures.silence)))
