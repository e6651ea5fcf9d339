use Rattle.std.proofs.Common.{◌≡◌, false, rules}
use Rattle.std.specs.List.{list_any}
use Rattle.rv_where.proofs.Taken.{other-text, utf8-text}
use Rattle.rv_where.specs.Lines.{is_control}
use Rattle.rv_where.proofs.lines.text_of.Goals as goal

pub returns-in-Ok-clause-text : goal.returns-in-Ok-clause-text
returns-in-Ok-clause-text c =
    let none : list_any is_control c.args.bytes.now ≡ false = search rules in
    (c.in-Ok.ensures.cases.0, utf8-text c.args.bytes.now none c.in-Ok.ensures.cases.1)

pub returns-in-Err-clause-none : goal.returns-in-Err-clause-none
returns-in-Err-clause-none c =
    let none : list_any is_control c.args.bytes.now ≡ false = search rules in
    other-text c.args.bytes.now none c.in-Err.ensures.cases.0
