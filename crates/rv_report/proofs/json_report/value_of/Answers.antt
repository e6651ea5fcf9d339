use Rattle.std.proofs.Common.{rules}
use Rattle.rv_report.proofs.Refused.{refused_text_of_last}
use Rattle.rv_report.proofs.json_report.value_of.Goals as goal

pub returns-in-Forbidden : goal.returns-in-Forbidden
returns-in-Forbidden c = search (refused_text_of_last, rules)

pub returns-in-Malformed : goal.returns-in-Malformed
returns-in-Malformed c = search (refused_text_of_last, rules)
