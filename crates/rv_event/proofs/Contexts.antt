-- The faults by a context are those over a log that tells it.
use Rattle.rv_event.proofs.Common.{arith, common_steps, ◌≡◌, List, first_faults, taken_fault, IsContext, faults_in}
use Rattle.rv_event.proofs.Common.{taken_in, Context, Event}

taken-in : (log : List Event) (e : Event) (context : Context) → IsContext log e context →
    taken_in context.writer e ≡ taken_fault log e
taken-in log e context is = grind (arith, common_steps)

-- a context of the log has the faults of the log
pub faults-in : (log : List Event) (e : Event) (context : Context) → IsContext log e context →
    faults_in context e ≡ first_faults log e
faults-in log e context is = rw (taken-in log e context is, is.count, is.depends_badly, is.reserved)
