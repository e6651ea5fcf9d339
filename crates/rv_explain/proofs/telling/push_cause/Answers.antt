use Rattle.rv_explain.proofs.telling.push_cause.Goals as goal

pub returns-in_ok-writeln-in-Stale : goal.returns-in_ok-writeln-in-Stale
returns-in_ok-writeln-in-Stale c = rw c.in-Stale.is c.in_ok-writeln-in-Stale.ensures.bytes
