use Rattle.std.proofs.Common.{◌+◌, ◌∙◌, arith, sym}
use Rattle.std.specs.HashSet.{contains}
use Rattle.rv_past.proofs.Noted.{pulled}
use Rattle.rv_past.proofs.Stored.{other-key}
use Rattle.rv_past.specs.Gone.{same_version}
use Rattle.rv_past.proofs.facts.pull.Goals as goal

pub following-preserved : goal.following-preserved
following-preserved c = record {
  least = let low = c.following.invariant.least in omega (arith, low);
  pulled =
      pulled (contains same_version c.args.above.now) (contains same_version c.following.above)
      (contains same_version c.remove.new.self) c.args.word c.args.version c.following.last c.following.invariant.least
      c.following.invariant.pulled (sym c.remove.ensures.test ∙ c.if-remove.true)
      (λ w v apart. c.remove.ensures.updates.2 (w, v) (other-key c.args.word w (c.following.last + 1) v apart));
  room = let before = c.following.invariant.room in let now = c.remove.ensures.spare in omega (arith, before, now);
}
