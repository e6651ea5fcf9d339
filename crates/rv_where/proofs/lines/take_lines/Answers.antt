use Rattle.std.proofs.Common.{arith, subst}
use Rattle.csv.specs.Records.{Row, fields_of}
use Rattle.rv_explain.specs.RowTexts.{said_by}
use Rattle.rv_where.proofs.Going.{going-ends, going-fault, going-long, going-next}
use Rattle.rv_where.specs.Lines.{IsLineFault, IsTaken}
use Rattle.rv_where.proofs.lines.take_lines.Goals as goal

pub returns-then-not-branch-clause-texts : goal.returns-then-not-branch-clause-texts
returns-then-not-branch-clause-texts g c =
    going-ends c.lines.before (said_by c.args.texts.now) (said_by c.lines.texts) c.args.rows.now.left c.lines.rows.left
    c.lines.invariant.1 (c.in_ok-next.ensures.end c.if-not-branch.true)

pub returns-in-Err-clause-fault : goal.returns-in-Err-clause-fault
returns-in-Err-clause-fault g c =
    going-fault c.lines.before (said_by c.args.texts.now) (said_by c.lines.texts) c.args.rows.now.left c.lines.rows.left
    c.next.new.rows.left c.next.new.rows.row c.in-Err.kind c.lines.invariant.1
    (c.in_ok-next.ensures.found c.if-not-branch.false) c.lines-test.true
    (subst (λ (r : Row). IsLineFault (fields_of r) c.in-Err.kind) c.row.ensures c.in-Err.ensures.fault)

pub lines-preserved : goal.lines-preserved
lines-preserved g c = (
  c.in_ok-next.ensures.goes c.if-not-branch.false,
  going-next c.lines.before (said_by c.args.texts.now) (said_by c.lines.texts) (said_by c.take_line.new.texts)
      c.args.rows.now.left c.lines.rows.left c.next.new.rows.left c.next.new.rows.row c.lines.invariant.1
      (c.in_ok-next.ensures.found c.if-not-branch.false) c.lines-test.true
      (subst (λ (r : Row). IsTaken (said_by c.lines.texts) (fields_of r) (said_by c.take_line.new.texts)) c.row.ensures
      c.in_default.ensures.taken),
)

pub returns-then-branch-clause-fault : goal.returns-then-branch-clause-fault
returns-then-branch-clause-fault g c =
    going-long c.lines.before (said_by c.args.texts.now) (said_by c.lines.texts) c.args.rows.now.left c.lines.rows.left
    c.next-2.new.rows.left c.next-2.new.rows.row c.lines.invariant.1
    (c.in_ok-next-2.ensures.found c.if-branch.true)
    (let end = c.lines-test.false in let most = c.lines.auto.before-end in omega (end, most, arith))

pub returns-clause-texts : goal.returns-clause-texts
returns-clause-texts g c =
    going-ends c.lines.before (said_by c.args.texts.now) (said_by c.lines.texts) c.args.rows.now.left c.lines.rows.left
    c.lines.invariant.1 (c.in_ok-next-2.ensures.end c.if-branch.false)
