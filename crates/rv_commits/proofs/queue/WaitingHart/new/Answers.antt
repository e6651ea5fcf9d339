use Rattle.std.proofs.Common.{ℕ, [], List, arith, ap, drop, length, subst, sym}
use Rattle.std.proofs.lemmas.List.{drop_all}
use Rattle.rv_flow.specs.declared.carrier.Carrier.{Carrier}
use Rattle.rv_commits.specs.Queues.{Merged, none}
use Rattle.rv_commits.specs.declared.pending.Pending.{Pending}
use Rattle.rv_commits.proofs.queue.WaitingHart.new.Goals as goal

pub returns-clause-numbers : goal.returns-clause-numbers
returns-clause-numbers c =
    let trace = c.new-rows.result.trace in
    let hart = c.new-rows.result.hart in
    let count = length c.carriers-carriers.result.now in
    let long = ap (λ (cs : List Carrier). length cs) c.carriers-carriers.ensures in record {
      steps = [];
      trace = c.new-rows.ensures.none;
      few = omega (long, arith);
      merged = subst (λ (n : ℕ). Merged hart n trace.rows (drop count trace.carriers) c.new-2.result.items)
          (sym c.next-given.ensures)
          (subst (λ (cs : List Carrier). Merged hart trace.rows trace.rows cs c.new-2.result.items)
          (sym (drop_all count trace.carriers (omega (long, arith))))
          (subst (λ (ps : List Pending). Merged hart trace.rows trace.rows [] ps) (sym c.new-2.ensures.items) none));
    }
