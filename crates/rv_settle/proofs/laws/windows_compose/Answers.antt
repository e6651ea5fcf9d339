use Rattle.rv_settle.proofs.Nested.{window-twice}
use Rattle.rv_settle.proofs.laws.windows_compose.Goals as goal

pub returns : goal.returns
returns c log first next = window-twice log first next
