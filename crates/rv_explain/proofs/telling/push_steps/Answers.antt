use Rattle.std.proofs.Common.{arith, string_bytes}
use Rattle.rv_explain.proofs.Numbers.{numbered-all, numbered-next}
use Rattle.rv_explain.proofs.telling.push_steps.Goals as goal

pub steps-preserved : goal.steps-preserved
steps-preserved c = numbered-next _ (string_bytes c.steps.text) (string_bytes c.push_step.new.text) c.args.steps.now
    c.steps.place c.index-steps-place.result (let low = c.steps-test.true in omega (low, arith)) c.index-steps-place.is
    c.steps.invariant c.in_ok-push_step.ensures

pub returns : goal.returns
returns c = numbered-all _ _ c.args.steps.now c.steps.place
    (λ low. let end = c.steps-test.false in omega (low, end, arith))
    c.steps.invariant
