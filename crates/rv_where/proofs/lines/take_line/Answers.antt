use Rattle.std.proofs.Common.{◌≡◌, List, ℕ, length, rules, string_bytes, subst, true}
use Rattle.csv.specs.Records.{fields_of}
use Rattle.rv_trace.specs.Row.{field}
use Rattle.rv_explain.specs.RowTexts.{IsNoted, said_by}
use Rattle.rv_where.proofs.Taken.{taken}
use Rattle.rv_where.specs.Lines.{is_text}
use Rattle.rv_where.proofs.lines.take_line.Goals as goal

pub returns-clause-taken : goal.returns-clause-taken
returns-clause-taken c =
    let fields = fields_of c.args.line.now in
    let old = said_by c.args.texts.now in
    let new = said_by c.note.new.self in
    let same : string_bytes c.in_ok-text.text ≡ field fields 2 = search rules in
    let text : is_text (field fields 2) ≡ true = search rules in
    let three : length fields ≡ 3 = search rules in
    taken old new fields c.in-Ok.source c.in-Ok-number_of.row three (search rules) (search rules) text
    (subst (λ (t : List ℕ). IsNoted old c.in-Ok.source c.in-Ok-number_of.row t new) same c.in_ok-note.ensures.noted)
