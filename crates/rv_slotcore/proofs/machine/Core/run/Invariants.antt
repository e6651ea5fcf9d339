use Rattle.rv_slotcore.proofs.Common.{◌≡◌, map, take, run, answers, core_of, step_of, answer_of}
use Rattle.rv_slotcore.proofs.machine.Core.run.Given as goal

abbrev pub invariant-loop-k : goal.invariant-loop-k
invariant-loop-k l = record {
  core : core_of l.next ≡ run (map step_of (take l.k l.steps)) (core_of l.self);
  told : map answer_of l.answers.items ≡ answers (map step_of (take l.k l.steps))
      (core_of l.self);
}
