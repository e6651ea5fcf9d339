use Rattle.std.proofs.Common.{◌+◌, arith, subst, sym}
use Rattle.rv_logrows.specs.Harts.{AreHarts, AreNew}
use Rattle.rv_logrows.proofs.Placed.{no-harts, one-more, one-more-new}
use Rattle.rv_logrows.proofs.harts.Harts.new.Goals as goal

pub harts-init : goal.harts-init
harts-init c = (
  subst (AreHarts 0) (sym c.new-all.ensures.items) no-harts,
  λ n d low. absurd (omega (low, arith)),
)

pub harts-preserved : goal.harts-preserved
harts-preserved c = (
  subst (AreHarts (c.harts.hart + 1)) (sym c.in_ok-push.ensures.items)
      (one-more c.harts.hart c.harts.all.items c.harts.invariant.0 c.new.result (record {
        number = c.new.ensures.hart;
        rows = c.new.ensures.numbers;
      })),
  subst (AreNew (c.harts.hart + 1)) (sym c.in_ok-push.ensures.items)
      (one-more-new c.harts.hart c.harts.all.items c.new.result c.harts.invariant.0.many c.harts.invariant.1 (record {
        trace = c.new.ensures.none;
        owns = c.new.ensures.owns;
        queue = c.new.ensures.empty;
        given = c.new.ensures.given;
      })),
)
