use Rattle.rv_commits.proofs.Traces.{err-by, on_err, still-same}
use Rattle.rv_commits.proofs.hart.HartRows.take.Goals as goal

pub returns-then-gives_value-clause-kept : goal.returns-then-gives_value-clause-kept
returns-then-gives_value-clause-kept c = err-by c.push_event.result
    (λ same rows. still-same c.args.self.now.trace c.push_event.new.self same rows.0 rows.1)
    c.push_event.ensures.kept c.push_event.ensures.rows

pub returns-in_err-push-clause-kept : goal.returns-in_err-push-clause-kept
returns-in_err-push-clause-kept c = on_err c.from_residual.result
    (still-same c.args.self.now.trace c.push.new.self c.in_err-push.ensures.kept c.in_err-push.ensures.rows.0
    c.in_err-push.ensures.rows.1)
