use Rattle.std.proofs.Common.{◌≡◌, rules, true}
use Rattle.csv.specs.Records.{fields_of}
use Rattle.rv_explain.specs.RowTexts.{said_by}
use Rattle.rv_where.proofs.Headers.{header-texts}
use Rattle.rv_where.specs.Lines.{is_header}
use Rattle.rv_where.proofs.lines.read_texts.Goals as goal

pub returns-clause-texts : goal.returns-clause-texts
returns-clause-texts g c =
    let is : is_header (fields_of c.next.new.rows.row) ≡ true = search rules in
    header-texts c.args.rows.now.left c.next.new.rows.left c.next.new.rows.row (said_by c.new-texts.result)
    (said_by c.take_lines.new.texts) (c.in_ok-next.ensures.found c.if-not-branch.false) is c.new-texts.ensures
    c.in_ok-take_lines.ensures.texts
