-- What the context says, the log says.
use Rattle.rv_event.proofs.Common.{◌∙◌, ap, lowest}
use Rattle.rv_event.proofs.Contexts.{faults-in}
use Rattle.rv_event.proofs.context.first_fault.Goals as goal

pub returns : goal.returns
returns c log is = c.first_fault_in.ensures ∙ ap lowest (faults-in log c.args.event.now c.args.context.now is)
