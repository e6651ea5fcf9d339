use Rattle.std.proofs.Common.{ap, string_bytes, rules}
use Rattle.std.specs.Prelude.{option_map}
use Rattle.rv_explain.proofs.row_texts.RowTexts.note.Goals as goal

pub returns-in_err-insert-clause-unchanged : goal.returns-in_err-insert-clause-unchanged
returns-in_err-insert-clause-unchanged c = search rules

pub returns-clause-noted : goal.returns-clause-noted
returns-clause-noted c = record {
  this = ap (option_map string_bytes) c.in_ok-insert.ensures.updates.1;
  others = λ s r other. ap (option_map string_bytes) (c.in_ok-insert.ensures.updates.2 (s, r) other);
}
