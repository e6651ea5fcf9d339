use Rattle.rv_replay.proofs.Common.{common_steps, rules, List, length, ap, ◌∙◌, arith, Entry, operations_of}
use Rattle.rv_replay.proofs.Common.{waiting_of}
use Rattle.rv_replay.proofs.Passes.{replaying-begin, replaying-turn, replaying-malformed, replaying-forbidden}
use Rattle.rv_replay.proofs.Passes.{replaying-end}
use Rattle.rv_replay.proofs.replaying.pass.Goals as goal

pub loop-entry-init : goal.loop-entry-init
loop-entry-init c = search (replaying-begin, rules)

pub unreachable-requires : goal.unreachable-requires
unreachable-requires c = grind (arith, common_steps)

pub returns-in-Malformed : goal.returns-in-Malformed
returns-in-Malformed c =
    replaying-malformed c.args.book.now.model c.args.entries.now c.loop-entry.entry-index c.loop-entry.book
    c.entry-item.result c.in-Malformed.malformed c.loop-entry.invariant (omega arith) c.entry-item.is
    (rw c.in-Malformed.is at c.offer.ensures.malformed)

pub returns-in-Forbidden : goal.returns-in-Forbidden
returns-in-Forbidden c =
    replaying-forbidden c.args.book.now.model c.args.entries.now c.loop-entry.entry-index c.loop-entry.book
    c.entry-item.result c.in-Forbidden.forbidden c.loop-entry.invariant (omega arith) c.entry-item.is
    (rw c.in-Forbidden.is at c.offer.ensures.forbidden)

pub loop-entry-preserved : goal.loop-entry-preserved
loop-entry-preserved c =
    replaying-turn c.args.book.now.model c.args.entries.now c.loop-entry.entry-index c.loop-entry.book c.offer.new.self
    c.entry-item.result c.loop-entry.invariant (omega arith)
    c.entry-item.is (rw c.in-Accepted.is at c.offer.ensures.accepted)

pub returns : goal.returns
returns c =
    let whole = replaying-end c.args.book.now.model c.args.entries.now c.loop-entry.entry-index c.loop-entry.book
    c.loop-entry.invariant (omega arith) in (
      whole.0,
      c.accepted.ensures ∙ ap (λ (l : List Entry). length l) whole.1,
      c.operations.ensures ∙ ap operations_of whole.1,
      c.waiting.ensures ∙ ap waiting_of whole.1,
    )
