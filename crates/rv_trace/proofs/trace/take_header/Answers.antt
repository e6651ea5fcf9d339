use Rattle.std.proofs.Common.{rules}
use Rattle.rv_trace.proofs.Streams.{header-taken, header-other, no-header}
use Rattle.rv_trace.proofs.trace.take_header.Goals as goal
use Rattle.rv_trace.proofs.trace.take_header.Goals.{else-found-via-then-found+else-is_header}
use Rattle.rv_trace.proofs.trace.take_header.Goals.{else-found-via-else-found}

pub returns-then-is_header-clause-header : goal.returns-then-is_header-clause-header
returns-then-is_header-clause-header g c = search (header-taken, rules)

pub returns-else-found-clause-fault : goal.returns-else-found-clause-fault
returns-else-found-clause-fault g c =
    search (
      else-found-via-then-found+else-is_header,
      header-other,
      else-found-via-else-found,
      no-header,
      rules,
    )
