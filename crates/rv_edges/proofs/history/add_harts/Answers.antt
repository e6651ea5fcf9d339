-- A hart that is opened has no events, as it had before.
use Rattle.rv_edges.proofs.Common.{sym, ◌∙◌, subst, arith, common_steps, AreHarts}
use Rattle.rv_edges.proofs.GrownHarts.{harts-opened}
use Rattle.rv_edges.proofs.history.add_harts.Goals as goal

pub loop-next-preserved : goal.loop-next-preserved
loop-next-preserved c = (
  grind (arith, common_steps),
  λ log own. subst (AreHarts c.args.model log) (sym c.in_ok-push.ensures.items)
      (harts-opened c.args.model log c.loop-next.harts.items c.new.result (c.loop-next.invariant.1 log own)
      (c.new.ensures.none log) c.new.ensures.model (c.new.ensures.number ∙ sym c.loop-next.invariant.0)),
)

pub returns-in_err-push-clause-same : goal.returns-in_err-push-clause-same
returns-in_err-push-clause-same c = λ log own.
    subst (AreHarts c.args.model log) (sym c.in_err-push.ensures.items) (c.loop-next.invariant.1 log own)
