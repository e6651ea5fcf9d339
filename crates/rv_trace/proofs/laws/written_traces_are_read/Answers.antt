use Rattle.rv_trace.proofs.WrittenTraces.{written}
use Rattle.rv_trace.proofs.laws.written_traces_are_read.Goals as goal

pub returns : goal.returns
returns c = written
