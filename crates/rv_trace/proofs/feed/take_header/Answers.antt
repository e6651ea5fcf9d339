use Rattle.std.proofs.Common.{rules}
use Rattle.rv_trace.proofs.Feeding.{feed-header-other, feed-header-taken, feed-no-header}
use Rattle.rv_trace.proofs.feed.take_header.Goals as goal
use Rattle.rv_trace.proofs.feed.take_header.Goals.{else-found-via-then-found+else-is_header}
use Rattle.rv_trace.proofs.feed.take_header.Goals.{else-found-via-else-found}

pub returns-then-is_header-clause-header : goal.returns-then-is_header-clause-header
returns-then-is_header-clause-header g c = search (feed-header-taken, rules)

pub returns-else-found-clause-fault : goal.returns-else-found-clause-fault
returns-else-found-clause-fault g c =
    search (
      else-found-via-then-found+else-is_header,
      feed-header-other,
      else-found-via-else-found,
      feed-no-header,
      rules,
    )
