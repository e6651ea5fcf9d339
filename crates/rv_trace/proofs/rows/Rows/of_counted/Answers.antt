use Rattle.rv_trace.specs.Counted.{bytes_left}
use Rattle.rv_trace.proofs.Rests.{new-left}
use Rattle.rv_trace.proofs.rows.Rows.of_counted.Goals as goal

pub returns-clause-left : goal.returns-clause-left
returns-clause-left g c =
    new-left (bytes_left g.R.Read.remaining) c.from_reader.result (bytes_left g.R.Read.remaining c.args.reader)
    c.from_reader.ensures.state c.from_reader.ensures.source
