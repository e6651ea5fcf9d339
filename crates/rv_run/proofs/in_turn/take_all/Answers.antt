use Rattle.rv_run.proofs.Common.{IsFalse, MemoryModel, ap, length, refl, rules, subst, sym}
use Rattle.rv_run.proofs.Common.{◌+◌, ◌<◌, ◌∙◌, ℕ}
use Rattle.rv_run.specs.InTurn.{AreRefused, HasTaken, streams_left}
use Rattle.std.proofs.lemmas.Result.{err_from_is_err_and}
use Rattle.rv_run.proofs.InTurn.{below-all, over-more, taking-begins, taking-goes-on, turn-fails, turn-refuses}
use borrow.Author.Rules.{scaled_Fits}
use Rattle.rv_run.proofs.in_turn.take_all.Goals.{in-More, in-Whole}
use Rattle.rv_run.proofs.in_turn.take_all.Goals as goal

-- Nothing was taken yet.
pub loop-init : goal.loop-init
loop-init g c = record {
  taking = taking-begins c.args.sources.now c.args.book.now.log c.requires.good c.requires.empty;
  going = c.requires.going;
  model = refl;
}

pub offset_bounds-sources-source-index : goal.offset_bounds-sources-source-index
offset_bounds-sources-source-index g c =
    let low : c.loop-source.source-index < length c.args.sources.now =
    subst (λ (n : ℕ). c.loop-source.source-index < n) c.loop.auto.sources c.loop-source-test.true in
    scaled_Fits _ _ _ low (search rules)

-- None of the traces has met a fault.
pub take_turn-requires-clause-good : goal.take_turn-requires-clause-good
take_turn-requires-clause-good g c =
    let so = c.loop-source.invariant.taking in
    so.good c.loop-source.source-index c.source-item.result
    (subst (λ (n : ℕ). c.loop-source.source-index < n) (sym c.loop-source.auto.sources ∙ so.as_many)
    c.loop-source-test.true)

-- A fault is that of the source whose turn it is.
pub returns-in_err-take_turn-clause-fault : goal.returns-in_err-take_turn-clause-fault
returns-in_err-take_turn-clause-fault g c =
    let at = c.loop-source in
    let so = at.invariant.taking in
    let streams = streams_left c.args.sources.now in
    let low : at.source-index < length streams =
    subst (λ (n : ℕ). at.source-index < n) (sym at.auto.sources ∙ so.as_many) c.loop-source-test.true in
    let met = rw (at.invariant.number, ← c.source-item.is) at c.in_err-take_turn.ensures.fault in
    let told = turn-fails streams at.book.log at.sources so at.source-index c.source-item.result low c.source-item.is
    c.in_err-take_turn.field-0.0 met in
    let from = err_from_is_err_and c.from_residual.result c.from_residual.ensures.1 in rw (from.1, from.2) told

-- What the book refuses is a refusal of the sources.
pub returns-in-Refused-clause-end : goal.returns-in-Refused-clause-end
returns-in-Refused-clause-end g c =
    let at = c.loop-source in
    let so = at.invariant.taking in
    let streams = streams_left c.args.sources.now in
    let low : at.source-index < length streams =
    subst (λ (n : ℕ). at.source-index < n) (sym at.auto.sources ∙ so.as_many) c.loop-source-test.true in
    let turn = rw (at.invariant.number, ← c.source-item.is, c.in-Refused.is) at c.in_ok-take_turn.ensures.end in
    subst (λ (m : MemoryModel). AreRefused m streams c.in-Refused.outcome) at.invariant.model
    (turn-refuses streams at.book.log at.sources so at.source-index c.source-item.result low c.source-item.is at.book
    c.in-Refused.outcome refl turn)

-- The log grows by what a turn takes, and a trace more may have given all.
pub loop-source-preserved : goal.loop-source-preserved
loop-source-preserved g c =
    let at = c.loop-source in
    let so = at.invariant.taking in
    let streams = streams_left c.args.sources.now in
    let low : at.source-index < length streams =
    subst (λ (n : ℕ). at.source-index < n) (sym at.auto.sources ∙ so.as_many) c.loop-source-test.true in
    let within : at.source-index < length at.sources =
    subst (λ (n : ℕ). at.source-index < n) (sym at.auto.sources) c.loop-source-test.true in
    let after = c.take_turn.new.source in
    let turn = rw (at.invariant.number, ← c.source-item.is) at c.in_ok-take_turn.ensures.end in
    let took : HasTaken at.source-index c.source-item.result after at.book c.take_turn.new.book =
    elim c.match-branch-2.branch [ in-More w ↦ (rw w.in-More.is at turn) | in-Whole w ↦ (rw w.in-Whole.is at turn).0 ]
    in record {
      taking = taking-goes-on streams at.book.log at.sources so at.source-index c.source-item.result low
          c.source-item.is after at.book c.take_turn.new.book refl took;
      going = subst IsFalse (sym took.stopped) at.invariant.going;
      model = took.model ∙ at.invariant.model;
      number = ap (λ (k : ℕ). k + 1) at.invariant.number;
      over = λ so_far. elim c.match-branch-2.branch [
        | in-More w ↦ cc
        | in-Whole w ↦ over-more at.sources at.source-index after (at.invariant.over (cc)) within
            (rw w.in-Whole.is at turn).1
      ];
    }

-- Each of the traces has given all.
pub returns-then-is_over-clause-end : goal.returns-then-is_over-clause-end
returns-then-is_over-clause-end g c =
    let at = c.loop-source in (
      at.invariant.taking,
      λ i t low. at.invariant.over c.if-is_over.true i t (below-all i (length (streams_left c.args.sources.now))
          (length c.loop.sources) at.source-index low (sym at.auto.sources ∙ at.invariant.taking.as_many)
          c.loop-source-test.false),
    )
