use Rattle.std.proofs.Common.{ℕ, ◌++◌, ◌∙◌, ap, drop, subst, sym}
use Rattle.rv_commits.specs.Made.{made}
use Rattle.rv_commits.specs.Queues.{Merged, pendings}
use Rattle.rv_commits.specs.declared.pending.Waiting.{Waiting}
use Rattle.rv_commits.proofs.Merging.{added-numbers, numbers-more}
use Rattle.rv_commits.proofs.queue.WaitingHart.retire.Goals as goal

pub returns-clause-retired : goal.returns-clause-retired
returns-clause-retired c = λ done are. record {
  added = c.in_ok-added.added;
  is_added = c.in_ok-added.ensures.added;
  own = c.last-own.result;
  is_own = c.last-own.ensures done are;
  queued = c.in_ok-push.ensures ∙ ap (λ (a : Waiting). c.args.self.now.queue.items ++ pendings c.in_ok-added.added a)
      c.waiting_by.ensures;
  owns = c.in_ok-add.ensures.added done are;
}

pub returns-clause-numbers : goal.returns-clause-numbers
returns-clause-numbers c =
    let numbers = c.requires.numbers in
    let old = c.args.self.now.rows.trace in
    let new = c.add.new.self.trace in
    let hart = c.args.self.now.rows.hart in
    let insn = c.args.instruction.now.insn in
    let adds = added-numbers hart insn c.args.word old new c.waiting_by.result (made c.args.instruction.now)
    c.in_ok-added.added c.in_ok-added.ensures.added in
    let more = numbers-more hart c.args.self.now.given c.args.self.now.carriers old new c.args.self.now.queue.items
    (pendings c.in_ok-added.added c.waiting_by.result) numbers.few numbers.merged adds in
    let longer = adds.traced numbers.steps numbers.trace in record {
      steps = longer.0;
      trace = longer.1;
      few = more.0;
      merged = subst (λ (h : ℕ). Merged h c.args.self.now.given new.rows (drop c.args.self.now.carriers new.carriers)
          c.push.new.queue.items) (sym c.in_ok-added.ensures.hart)
          (subst (Merged hart c.args.self.now.given new.rows (drop c.args.self.now.carriers new.carriers))
          (sym c.in_ok-push.ensures) more.1);
    }
