-- The reservation that is kept is there exactly where the last LR, SC or failed SC is an LR.
use Rattle.rv_hart.proofs.Common.{◌∙◌, hart_of_log}
use Rattle.rv_hart.proofs.Reservations.{reserved_is}
use Rattle.rv_hart.proofs.hart.HartOrder.is_reserved.Goals as goal

pub returns : goal.returns
returns c = λ log of_log. c.is_some.ensures
    ∙ reserved_is (hart_of_log log c.args.self.now) of_log.kept.hart c.args.self.now.kept.sets.reserved
    of_log.kept.sets.reserved
