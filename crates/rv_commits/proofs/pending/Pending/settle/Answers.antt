use Rattle.std.proofs.Common.{◌++◌, IfSome, Ok, ap, refl, subst}
use Rattle.rv_commits.specs.Settled.{AreRowVersions}
use Rattle.rv_commits.proofs.pending.Pending.settle.Goals as goal

pub returns-in-Ok-Some-clause-settled : goal.returns-in-Ok-Some-clause-settled
returns-in-Ok-Some-clause-settled c = λ issued more performed later is grow at settled. record {
  versions = c.in-Ok-Some.versions;
  are = subst
      (λ o. IfSome o (AreRowVersions (issued ++ more) (performed ++ later) c.args.initial c.args.self.now))
      c.in-Ok-Some.field-0-is (c.in-Ok-Some.ensures.versions issued more performed later is grow at);
  row = refl;
}

pub returns-in-Ok-None-clause-waits : goal.returns-in-Ok-None-clause-waits
returns-in-Ok-None-clause-waits c = λ issued performed is at none.
    c.in-Ok-None.ensures.waits issued performed is at (ap Ok c.in-Ok-None.field-0-is)
