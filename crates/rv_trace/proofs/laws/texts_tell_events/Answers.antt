use Rattle.rv_trace.proofs.WrittenTraces.{told}
use Rattle.rv_trace.proofs.laws.texts_tell_events.Goals as goal

pub returns : goal.returns
returns c = told
