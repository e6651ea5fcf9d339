use Rattle.std.proofs.Common.{◌≡◌, ◌++◌, map}
use Rattle.rv_commits.specs.Queues.{pending}
use Rattle.rv_commits.proofs.queue.push_all.Given as goal

abbrev pub invariant-rows : goal.invariant-rows
invariant-rows l = l.queue.items ≡ l.initial.queue.items ++ map (pending l.waiting) l.yielded
