use Rattle.std.proofs.Common.{subst}
use Rattle.rv_past.proofs.Stored.{first-store}
use Rattle.rv_past.specs.Gone.{IsNewest}
use Rattle.rv_past.proofs.past.newest_with.Goals as goal

pub returns-in-None : goal.returns-in-None
returns-in-None c = λ gone of.
    first-store gone c.args.event.now c.requires (subst (IsNewest gone c.args.event.now.word) c.in-None.is of)
